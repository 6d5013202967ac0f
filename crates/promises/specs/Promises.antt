-- WHAT THIS LIBRARY PROMISES, in one record: of every call that it meets its contract, on any bits, and of every crate
-- the theorems that docs/PROMISES.md names, which the file of its name here states. No contract cites it;
-- proofs/Promises.antt fills it. Assumes nothing.
use Rattle.capture.proofs.read.Statement as call_read
use Rattle.break_limit.proofs.break_limit.Statement as call_break_limit
use Rattle.break_greedy.proofs.greedy.Statement as call_greedy
use Rattle.balance.proofs.balanced.Statement as call_balanced
use Rattle.flex_line_call.proofs.flex_line.Statement as call_flex_line
use Rattle.flex_lines_call.proofs.flex_lines.Statement as call_flex_lines
use Rattle.place_main.proofs.main_call.place_main.Statement as call_place_main
use Rattle.place_size_call.proofs.size_line.Statement as call_size_line
use Rattle.place_lines_call.proofs.place_lines.Statement as call_place_lines
use Rattle.place_across_call.proofs.place_across.Statement as call_place_across
use Rattle.pass.proofs.pass.Statement as call_pass
use Rattle.promises.specs.Checks as checks
use Rattle.promises.specs.BreakLimit as break_limit
use Rattle.promises.specs.BreakGreedy as break_greedy
use Rattle.promises.specs.BalanceRule as balance_rule
use Rattle.promises.specs.Balance as balance
use Rattle.promises.specs.Flex as flex
use Rattle.promises.specs.FlexLineCall as flex_line_call
use Rattle.promises.specs.FlexLinesCall as flex_lines_call
use Rattle.promises.specs.FlexReach as flex_reach
use Rattle.promises.specs.PlaceAlign as place_align
use Rattle.promises.specs.PlaceMain as place_main
use Rattle.promises.specs.PlaceCross as place_cross
use Rattle.promises.specs.PlaceSizeCall as place_size_call
use Rattle.promises.specs.PlaceLinesCall as place_lines_call
use Rattle.promises.specs.PlaceAcrossCall as place_across_call
use Rattle.promises.specs.PassBreak as pass_break
use Rattle.promises.specs.PassWalk as pass_walk
use Rattle.promises.specs.PassWalkAcross as pass_walk_across
use Rattle.promises.specs.Pass as pass
use Rattle.promises.specs.CaptureFormat as capture_format
use Rattle.promises.specs.CaptureFeed as capture_feed
use Rattle.promises.specs.Capture as capture
use Rattle.promises.specs.Examples as examples
use Rattle.worked.specs.Worked as worked
use Rattle.handed_on.specs.Promised as handed_on

pub record Fratolivem : Type 2 where
  -- ---- the answer of a capture, and each call inside, on any bits, ends, touches no cell that it was not lent, and
  -- meets its contract
  pub «capture::read» : {M : Type 1} → call_read.statement M
  pub «break_limit::break_limit» : {M : Type 1} → call_break_limit.statement M
  pub «break_greedy::greedy» : {M : Type 1} → call_greedy.statement M
  pub «balance::balanced» : {M : Type 1} → call_balanced.statement M
  pub «flex_line_call::flex_line» : {M : Type 1} → call_flex_line.statement M
  pub «flex_lines_call::flex_lines» : {M : Type 1} → call_flex_lines.statement M
  pub «place_main::main_call::place_main» : {M : Type 1} → call_place_main.statement M
  pub «place_size_call::size_line» : {M : Type 1} → call_size_line.statement M
  pub «place_lines_call::place_lines» : {M : Type 1} → call_place_lines.statement M
  pub «place_across_call::place_across» : {M : Type 1} → call_place_across.statement M
  pub «pass::pass» : {M : Type 1} → call_pass.statement M
  -- ---- the theorems of each crate; among them, of every call, that its contract leaves no choice
  pub «checks» : checks.Promised
  pub «break_limit» : break_limit.Promised
  pub «break_greedy» : break_greedy.Promised
  pub «balance_rule» : balance_rule.Promised
  pub «balance» : balance.Promised
  pub «flex» : flex.Promised
  pub «flex_line_call» : flex_line_call.Promised
  pub «flex_lines_call» : flex_lines_call.Promised
  pub «flex_reach» : flex_reach.Promised
  pub «place_align» : place_align.Promised
  pub «place_main» : place_main.Promised
  pub «place_cross» : place_cross.Promised
  pub «place_size_call» : place_size_call.Promised
  pub «place_lines_call» : place_lines_call.Promised
  pub «place_across_call» : place_across_call.Promised
  pub «pass_break» : pass_break.Promised
  pub «pass_walk» : pass_walk.Promised
  pub «pass_walk_across» : pass_walk_across.Promised
  pub «pass» : pass.Promised
  pub «capture_format» : capture_format.Promised
  pub «capture_feed» : capture_feed.Promised
  pub «capture» : capture.Promised
  pub «examples» : examples.Promised
  pub worked : worked.Worked
  pub «handed_on» : handed_on.Promised
