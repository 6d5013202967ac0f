-- The promises that what a call hands on is what a later one takes, filled. Assumes nothing.
use Rattle.handed_on.specs.Promised.{Promised}
use Rattle.handed_on.proofs.Beyond.{stretched, not_taken}
use Rattle.handed_on.proofs.Lines.{lines_reach}
use Rattle.handed_on.proofs.LineSize.{size_reach}
use Rattle.handed_on.proofs.Pass.{pass_reach}

pub promised : Promised
promised = record { lines_reach = lines_reach; pass_reach = pass_reach; size_reach = size_reach; stretched = stretched; not_taken = not_taken }
