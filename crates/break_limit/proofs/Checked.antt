-- The checks of a break limit: the least of the marks that the call takes is document 01's order of checks on its input. Assumes nothing.
use mathlib.Core.Path.{◌≡◌, sym, ap, ◌∙◌}
use mathlib.Core.List.{List, [], ◌++◌, append-nil}
use Prim.Native.Nat.{ℕ, min, zero-le}
use Rattle.checks.specs.Domain.{Number}
use Rattle.checks.specs.Marks.{least_of, least_up_to, least_mark, judged}
use Rattle.checks.proofs.Checks.{judged-checked, least_append}
use Rattle.checks.proofs.Verdicts.{then_last}
use Rattle.break_limit.specs.declared.Query.{Query}
use Rattle.break_limit.specs.Limit.{space_numbers, bound_numbers, limit_input, limit_verdict}
use Rattle.std.specs.declared.result.Result.TheVariants.{Ok}

none_more : (l : List Number) → least_of l 0 ≡ min (least_of l 0) 6144
unfolding least_of
none_more l = ap (λ (t : List Number). least_of t 0) (sym (append-nil l)) ∙ least_append l [] 0

-- the mark of a query
abbrev pub query_mark : Query → ℕ
query_mark q = min (least_of (space_numbers q.available) 0) (min (least_of (bound_numbers q.minimum) 0) (least_of (bound_numbers q.maximum) 0))

pub query_checked : (codes : List Number) (q : Query) → judged (min (least_of codes 0) (query_mark q)) ≡ limit_verdict codes q
unfolding least_up_to
query_checked codes q =
    let s = space_numbers q.available in
    let a = bound_numbers q.minimum in
    let b = bound_numbers q.maximum in
    ap judged (sym (least_append codes (s ++ (a ++ b)) 0 ∙ ap (min (least_of codes 0)) (least_append s (a ++ b) 0 ∙ ap (min (least_of s 0)) (least_append a b 0))) ∙ none_more (codes ++ (s ++ (a ++ b))))
    ∙ sym (then_last (judged (least_mark (limit_input codes q))))
    ∙ judged-checked (limit_input codes q) zero-le (Ok tt)
