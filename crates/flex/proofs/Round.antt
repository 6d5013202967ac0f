-- One round, from the sums that the code works out, and in its two passes. Assumes nothing.
use mathlib.Core.Path.{◌≡◌, refl, ap, ap₂, ◌∙◌}
use mathlib.Core.Bool.{Bool, true, false}
use mathlib.Core.List.{List, [], ◌∷◌, map}
use Prim.Native.Nat.{ℕ}
use lib.ListN.{length}
use lib.Ieee.{Float}
use Rattle.flex.specs.declared.Item.{Item}
use Rattle.flex.specs.declared.Line.{Line}
use Rattle.flex.specs.declared.Share.{Share}
use Rattle.flex.specs.declared.Sums.{Sums}
use Rattle.flex.specs.Flex.{Cell, total, left, outer_now, remaining, limited, share, violation, settle, round}
use Rattle.flex.specs.Steps.{Summed, space_left, share_of, sized, settled}

pub remaining_is : (inner gap : Float) (cells : List Cell) (n : ℕ) (outer : Float) → n ≡ length cells → outer ≡ total outer_now cells → space_left inner gap n outer ≡ remaining inner gap cells
remaining_is inner gap cells n outer e o = ap₂ (λ (k : ℕ) (x : Float). space_left inner gap k x) e o

share_is : (ln : Line) (cells : List Cell) (n : ℕ) (s : Sums) → n ≡ length cells → Summed ln.growing cells s → share_of ln n s ≡ share ln cells
unfolding share
share_is ln cells n s e p =
    ap₂ (λ (x y : Float). shared x y)
    (ap₂ (λ (x y : Float). limited ln.initial x y) p.factors (remaining_is ln.inner ln.gap cells n s.outer e p.outer))
    p.weights
  where
    shared : Float → Float → Share
    shared f w = record { growing = ln.growing; free = f; weights = w }

-- the two passes settle each cell
settled_is : (sh : Share) (sum : Float) (it : Item) (b : Bool) (x : Float) → settled sum (sized sh (record { item = it; frozen = b; target = x })) ≡ settle sh sum (record { item = it; frozen = b; target = x })
unfolding settle violation
settled_is sh sum it true x = refl
settled_is sh sum it false x = refl

passes_are : (sh : Share) (sum : Float) (cells : List Cell) → map (settled sum) (map (sized sh) cells) ≡ map (settle sh sum) cells
passes_are sh sum [] = refl
passes_are sh sum (c ∷ l) = ap₂ (λ (d : Cell) (r : List Cell). d ∷ r) (settled_is sh sum c.item c.frozen c.target) (passes_are sh sum l)

-- and are the definition's round
pub round_is : (ln : Line) (cells : List Cell) (n : ℕ) (s : Sums) (sh : Share) (sum : Float) → n ≡ length cells → Summed ln.growing cells s → sh ≡ share_of ln n s → sum ≡ total (λ c. violation sh c.item) (left cells)
    → map (settled sum) (map (sized sh) cells) ≡ round ln cells
unfolding round
round_is ln cells n s sh sum e p q v =
    passes_are sh sum cells
    ∙ ap (λ (t : Float). map (settle sh t) cells) v
    ∙ ap (λ (h : Share). map (settle h (total (λ c. violation h c.item) (left cells))) cells) (q ∙ share_is ln cells n s e p)
