-- The library keeps its promises: each call by its own proof, and the theorems by the records that are filled here. Assumes nothing.
use Rattle.capture.proofs.read.Met as call_read
use Rattle.break_limit.proofs.break_limit.Met as call_break_limit
use Rattle.break_greedy.proofs.greedy.Met as call_greedy
use Rattle.balance.proofs.balanced.Met as call_balanced
use Rattle.flex_line_call.proofs.flex_line.Met as call_flex_line
use Rattle.flex_lines_call.proofs.flex_lines.Met as call_flex_lines
use Rattle.place_main.proofs.main_call.place_main.Met as call_place_main
use Rattle.place_size_call.proofs.size_line.Met as call_size_line
use Rattle.place_lines_call.proofs.place_lines.Met as call_place_lines
use Rattle.place_across_call.proofs.place_across.Met as call_place_across
use Rattle.pass.proofs.pass.Met as call_pass
use Rattle.promises.proofs.Checks as checks
use Rattle.promises.proofs.BreakLimit as break_limit
use Rattle.promises.proofs.BreakGreedy as break_greedy
use Rattle.promises.proofs.BalanceRule as balance_rule
use Rattle.promises.proofs.Balance as balance
use Rattle.promises.proofs.Flex as flex
use Rattle.promises.proofs.FlexLineCall as flex_line_call
use Rattle.promises.proofs.FlexLinesCall as flex_lines_call
use Rattle.promises.proofs.FlexReach as flex_reach
use Rattle.promises.proofs.PlaceAlign as place_align
use Rattle.promises.proofs.PlaceMain as place_main
use Rattle.promises.proofs.PlaceCross as place_cross
use Rattle.promises.proofs.PlaceSizeCall as place_size_call
use Rattle.promises.proofs.PlaceLinesCall as place_lines_call
use Rattle.promises.proofs.PlaceAcrossCall as place_across_call
use Rattle.promises.proofs.PassBreak as pass_break
use Rattle.promises.proofs.PassWalk as pass_walk
use Rattle.promises.proofs.PassWalkAcross as pass_walk_across
use Rattle.promises.proofs.Pass as pass
use Rattle.promises.proofs.CaptureFormat as capture_format
use Rattle.promises.proofs.CaptureFeed as capture_feed
use Rattle.promises.proofs.Capture as capture
use Rattle.promises.proofs.Examples as examples
use Rattle.worked.proofs.Worked as worked
use Rattle.handed_on.proofs.Promised as handed_on
use Rattle.promises.specs.Promises.{Fratolivem}

pub fratolivem : Fratolivem
fratolivem = record {
  «capture::read» = call_read.met;
  «break_limit::break_limit» = call_break_limit.met;
  «break_greedy::greedy» = call_greedy.met;
  «balance::balanced» = call_balanced.met;
  «flex_line_call::flex_line» = call_flex_line.met;
  «flex_lines_call::flex_lines» = call_flex_lines.met;
  «place_main::main_call::place_main» = call_place_main.met;
  «place_size_call::size_line» = call_size_line.met;
  «place_lines_call::place_lines» = call_place_lines.met;
  «place_across_call::place_across» = call_place_across.met;
  «pass::pass» = call_pass.met;
  «checks» = checks.promised;
  «break_limit» = break_limit.promised;
  «break_greedy» = break_greedy.promised;
  «balance_rule» = balance_rule.promised;
  «balance» = balance.promised;
  «flex» = flex.promised;
  «flex_line_call» = flex_line_call.promised;
  «flex_lines_call» = flex_lines_call.promised;
  «flex_reach» = flex_reach.promised;
  «place_align» = place_align.promised;
  «place_main» = place_main.promised;
  «place_cross» = place_cross.promised;
  «place_size_call» = place_size_call.promised;
  «place_lines_call» = place_lines_call.promised;
  «place_across_call» = place_across_call.promised;
  «pass_break» = pass_break.promised;
  «pass_walk» = pass_walk.promised;
  «pass_walk_across» = pass_walk_across.promised;
  «pass» = pass.promised;
  «capture_format» = capture_format.promised;
  «capture_feed» = capture_feed.promised;
  «capture» = capture.promised;
  «examples» = examples.promised;
  worked = worked.worked_holds;
  «handed_on» = handed_on.promised;
}
