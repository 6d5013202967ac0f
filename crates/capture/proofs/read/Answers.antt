-- `capture::read` meets its contract: a reader that was fed the whole capture says what `reading` says, once its head has its meaning. Assumes nothing.
use mathlib.Core.Path.{◌≡◌, refl, sym, ◌∙◌, ap, subst}
use native.Mathlib.Omega.{arith}
use lib.ListN.{length, replicate}
use lib.Ieee.{binary32, of_bits}
use Rattle.capture_feed.specs.Machine.{with_sizes, fed, ReaderReady}
use Rattle.capture_feed.specs.declared.Reader.{Reader}
use Rattle.capture_feed.proofs.Whole.{started_sound}
use Rattle.capture.proofs.Answers.{fed_full, reads}
use borrow.Author.Rules.{rules}
use Rattle.capture.proofs.read.Goals as goal
use Rattle.capture.proofs.read.Goals.{After-answer}

full : (c : After-answer) → length c.args.counts.now ≡ 64
full c = search rules

pub feed-requires : goal.feed-requires
feed-requires c = subst (λ (r : Reader). ReaderReady r (length c.args.bytes.now)) (sym c.start-reader.ensures) (record { sound = started_sound; room = omega arith })

pub slice_bounds-answer-end : goal.slice_bounds-answer-end
slice_bounds-answer-end c = sym (fed_full _ _ refl c.feed.ensures)

pub answer-requires : goal.answer-requires
answer-requires c = (fed_full _ _ refl c.feed.ensures, search rules)

pub returns : goal.returns
returns c =
    let bytes = c.args.bytes.now in
    let room = replicate 64 (of_bits binary32 0) in record {
      capture_answered = reads room bytes _ _ _ refl (omega arith)
          (c.feed.ensures ∙ ap (λ (r : Reader). fed (with_sizes r room) bytes) c.start-reader.ensures)
          c.answer.ensures;
      counts_len = c.answer.auto.counts ∙ full c;
    }
