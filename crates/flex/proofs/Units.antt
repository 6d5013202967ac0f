-- The free space before flexing: the f32 sums of an accepted line are exact, so they are the definition's whole sixty-fourths. Assumes nothing.
use mathlib.Core.Path.{◌≡◌, refl, sym, ap, ap₂, ◌∙◌, subst}
use mathlib.Core.Logic.{◌⊎◌, inl, inr}
use mathlib.Core.Bool.{Bool, true, false, cond}
use mathlib.Core.List.{List, [], ◌∷◌}
use Prim.Native.Nat.{ℕ, zero, suc, ◌+◌, ◌-◌, ◌*◌, ◌^◌, ◌≤◌, ◌<◌}
use native.Mathlib.Nat.{le_refl, le_trans, le_of_eq, mul-le-mul_left, mul-zero, mul-suc, zero-add, lt_of_le_of_lt, lt_of_lt_of_le}
use native.Mathlib.Omega.{arith}
use lib.Dec.{lit≤, lit<}
use lib.Signed.{mag}
use mir.Syntax.{w32}
use mir.Val.{to_z, of_z, SFits}
use mir.ValLaws.{to_z-of_z}
use lib.ListN.{length}
use lib.IntN.{ℤ, pos, negsuc, neg_ℤ, nat_abs, ◌+ℤ◌, ◌-ℤ◌, ◌*ℤ◌, +ℤ_assoc, +ℤ_idl, +ℤ_idr, *ℤ-zero}
use lib.Ieee.{Float, nan, inf, fin, binary32, mul, lt, of_int, of_bits}
use Rattle.grid.specs.Grid.{sixty_fourths}
use Rattle.grid.specs.Values.{At, Length}
use Rattle.grid.proofs.Exact.{add_at, mul_at}
use Rattle.grid.proofs.Meaning.{at_of_grid, grid_of_at, none_at}
use Rattle.grid.proofs.Sums.{abs-add, abs-sub}
use Rattle.grid.proofs.Convert.{of_int_at, back32}
use Rattle.flex.specs.declared.Item.{Item}
use Rattle.grid.specs.Floats.{gaps, raised, lowered, nought, ◌⊕◌}
use Rattle.flex.specs.Flex.{free_before, sum_from, total, clamp, hypothetical, outer, outer_units, sum_units, outer_sum}
use Rattle.flex.specs.Accepted.{Measured, Every, Accepted}

-- ---- the hypothetical size is one of the item's lengths

either : (b : Bool) (x y : Float) → Length x → Length y → Length (cond b x y)
either true x y p q = p
either false x y p q = q

not_above : (x : Float) → lt (inf false) x ≡ false
unfolding lt
not_above nan = refl
not_above (inf true) = refl
not_above (inf false) = refl
not_above (fin s m e) = refl

pub first-length : (it : Item) → Measured it → Length (hypothetical it)
unfolding clamp
first-length it m = raise (raised (lowered it.base it.maximum) it.minimum) it.edges (raise (lowered it.base it.maximum) it.minimum (held m.maximum) m.minimum) m.edges
  where
    raise : (x y : Float) → Length x → Length y → Length (raised x y)
    raise x y p q = either (lt x y) y x q p

    held : (it.maximum ≡ inf false) ⊎ Length it.maximum → Length (lowered it.base it.maximum)
    held (inl e) = subst (λ (y : Float). Length (lowered it.base y)) (sym e) (subst (λ (b : Bool). Length (cond b (inf false) it.base)) (sym (not_above it.base)) m.base)
    held (inr l) = either (lt it.maximum it.base) it.maximum it.base l m.base

-- ---- sums

at : (x : Float) → Length x → At 64 x (sixty_fourths x)
at x l = at_of_grid x l.grid

two : (a b : ℤ) → nat_abs a ≤ 8388608 → nat_abs b ≤ 8388608 → nat_abs (a +ℤ b) ≤ 2 ^ 24
two a b p q = le_trans {m = 16777216} (le_trans {m = nat_abs a + nat_abs b} (abs-add a b) (sum (nat_abs a) (nat_abs b) p q)) (lit≤ tt)
  where
    sum : (a b : ℕ) → a ≤ 8388608 → b ≤ 8388608 → a + b ≤ 16777216
    sum a b p q = omega arith

pub outer_at_lem : (it : Item) → Measured it → nat_abs (outer_units it) ≤ 16777216 → At 64 (outer it (hypothetical it)) (outer_units it)
outer_at_lem it m h =
    add_at binary32 6 (lit≤ tt) (at (hypothetical it) (first-length it m))
    (add_at binary32 6 (lit≤ tt) (at it.start m.start.length) (at it.end m.end.length) (two (sixty_fourths it.start) (sixty_fourths it.end) m.start.small m.end.small))
    (le_trans {m = 16777216} h (lit≤ tt))

sum_at : (gap : Float) (s : Float) (z : ℤ) (l : List Item) → At 64 s z → Every Measured l → nat_abs z + outer_sum gap l ≤ 16777216 → At 64 (sum_from s (λ it. outer it (hypothetical it)) l) (z +ℤ sum_units l)
unfolding sum_from sum_units outer_sum
sum_at gap s z [] p e h = subst (λ (y : ℤ). At 64 s y) (sym (+ℤ_idr z)) p
sum_at gap s z (it ∷ l) p e h =
    let u = outer_units it in
    let g = nat_abs (sixty_fourths gap) in
    let b = abs-add z u in
    subst (λ (y : ℤ). At 64 (sum_from (s ⊕ outer it (hypothetical it)) (λ i. outer i (hypothetical i)) l) y) (+ℤ_assoc z u (sum_units l))
    (sum_at gap (s ⊕ outer it (hypothetical it)) (z +ℤ u) l
    (add_at binary32 6 (lit≤ tt) p (outer_at_lem it e.0 (part (nat_abs z) (nat_abs u) g (outer_sum gap l) h)) (le_trans {m = 16777216} (first (nat_abs z) (nat_abs u) g (outer_sum gap l) (nat_abs (z +ℤ u)) b h) (lit≤ tt)))
    e.1 (rest (nat_abs z) (nat_abs u) g (outer_sum gap l) (nat_abs (z +ℤ u)) b h))
  where
    part : (a b c d : ℕ) → a + (b + c + d) ≤ 16777216 → b ≤ 16777216
    part a b c d h = omega arith

    first : (a b c d x : ℕ) → x ≤ a + b → a + (b + c + d) ≤ 16777216 → x ≤ 16777216
    first a b c d x p h = omega arith

    rest : (a b c d x : ℕ) → x ≤ a + b → a + (b + c + d) ≤ 16777216 → x + d ≤ 16777216
    rest a b c d x p h = omega arith

-- ---- gaps

abs-mul : (a : ℤ) (k : ℕ) → nat_abs (a *ℤ pos k) ≤ nat_abs a * k
abs-mul (pos a) k = le_refl (a * k)
abs-mul (negsuc a) k = le_of_eq (flip (suc a * k))
  where
    flip : (n : ℕ) → nat_abs (neg_ℤ (pos n)) ≡ n
    flip zero = refl
    flip (suc n) = refl

outer_both : (gap : Float) (l : List Item) → nat_abs (sum_units l) + nat_abs (sixty_fourths gap) * length l ≤ outer_sum gap l
unfolding outer_sum sum_units
outer_both gap [] = le_of_eq (zero-add (nat_abs (sixty_fourths gap) * 0) ∙ mul-zero (nat_abs (sixty_fourths gap)))
outer_both gap (it ∷ l) =
    let g = nat_abs (sixty_fourths gap) in
    let b = abs-add (outer_units it) (sum_units l) in
    le_trans {m = nat_abs (outer_units it +ℤ sum_units l) + (g * length l + g)} (le_of_eq (ap (λ (n : ℕ). nat_abs (outer_units it +ℤ sum_units l) + n) (mul-suc g (length l))))
    (more (nat_abs (outer_units it +ℤ sum_units l)) (g * length l) g (nat_abs (outer_units it)) (nat_abs (sum_units l)) (outer_sum gap l) b (outer_both gap l))
  where
    more : (x a g c d e : ℕ) → x ≤ c + d → d + a ≤ e → x + (a + g) ≤ c + g + e
    more x a g c d e p q = omega arith

gaps_at : (gap : Float) (n : ℕ) → Length gap → n ≤ 1024 → nat_abs (sixty_fourths gap) * n ≤ 16777216 → At 64 (gaps gap n) (sixty_fourths gap *ℤ pos (n - 1))
unfolding gaps of_bits
gaps_at gap zero l m h = subst (λ (z : ℤ). At 64 nought z) (sym (*ℤ-zero (sixty_fourths gap))) (none_at 64)
gaps_at gap (suc k) l m h =
    subst (λ (j : ℕ). At 64 (mul binary32 gap (of_int binary32 (pos k))) (sixty_fourths gap *ℤ pos j)) (less k)
    (mul_at binary32 6 0 (lit≤ tt) (at gap l) (of_int_at binary32 (pos k) (le_trans {m = 1024} (few k m) (lit≤ tt)))
    (le_trans {m = nat_abs (sixty_fourths gap) * k} (abs-mul (sixty_fourths gap) k) (le_trans {m = nat_abs (sixty_fourths gap) * suc k} (mul-le-mul_left (nat_abs (sixty_fourths gap)) (next k)) (le_trans {m = 16777216} h (lit≤ tt)))))
  where
    less : (k : ℕ) → k ≡ suc k - 1
    less k = omega arith

    few : (k : ℕ) → suc k ≤ 1024 → k ≤ 1024
    few k m = omega arith

    next : (k : ℕ) → k ≤ suc k
    next k = omega arith

-- ---- the used space

abbrev pub used_units : Float → List Item → ℤ
used_units gap items = sixty_fourths gap *ℤ pos (length items - 1) +ℤ sum_units items

used_small : (gap : Float) (items : List Item) → outer_sum gap items ≤ 16777216 → nat_abs (used_units gap items) ≤ 16777216
used_small gap items h =
    let g = nat_abs (sixty_fourths gap) in
    let n = length items in
    sum (nat_abs (used_units gap items)) (nat_abs (sixty_fourths gap *ℤ pos (n - 1))) (g * (n - 1)) (g * n) (nat_abs (sum_units items)) (outer_sum gap items) (abs-add (sixty_fourths gap *ℤ pos (n - 1)) (sum_units items)) (abs-mul (sixty_fourths gap) (n - 1)) (mul-le-mul_left g (less n)) (outer_both gap items) h
  where
    less : (n : ℕ) → n - 1 ≤ n
    less n = omega arith

    sum : (x a b c d e : ℕ) → x ≤ a + d → a ≤ b → b ≤ c → d + c ≤ e → e ≤ 16777216 → x ≤ 16777216
    sum x a b c d e p q r s t = omega arith

pub used_length : (inner gap : Float) (items : List Item) → length items ≤ 1024 → Accepted inner gap items
    → Length (gaps gap (length items) ⊕ total (λ it. outer it (hypothetical it)) items) × (sixty_fourths (gaps gap (length items) ⊕ total (λ it. outer it (hypothetical it)) items) ≡ used_units gap items)
unfolding of_bits
used_length inner gap items m a =
    let used = gaps gap (length items) ⊕ total (λ it. outer it (hypothetical it)) items in
    let g = nat_abs (sixty_fourths gap) in
    let small = used_small gap items a.within in
    let s = subst (λ (z : ℤ). At 64 (total (λ it. outer it (hypothetical it)) items) z) (+ℤ_idl (sum_units items)) (sum_at gap nought (pos 0) items (none_at 64) a.items_are (le_trans {m = outer_sum gap items} (le_of_eq (zero-add (outer_sum gap items))) a.within)) in
    let r = grid_of_at used (used_units gap items) (add_at binary32 6 (lit≤ tt) (gaps_at gap (length items) a.gap_is m (least (nat_abs (sum_units items)) (g * length items) (outer_sum gap items) (outer_both gap items) a.within)) s (le_trans {m = 16777216} small (lit≤ tt))) in
    (record { grid = r.0; small = subst (λ (z : ℤ). nat_abs z ≤ 16777216) (sym r.1) small }, r.1)
  where
    least : (a b c : ℕ) → a + b ≤ c → c ≤ 16777216 → b ≤ 16777216
    least a b c p q = omega arith

-- ---- the difference, in an i32

mag_small : (z : ℤ) → nat_abs z ≤ 33554432 → mag z < 2 ^ 31
mag_small (pos n) h = lt_of_le_of_lt h (lit< tt)
mag_small (negsuc n) h = lt_of_lt_of_le h (lit≤ tt)

apart : (a b : ℤ) → nat_abs a ≤ 16777216 → nat_abs b ≤ 16777216 → nat_abs (a -ℤ b) ≤ 33554432
apart a b p q = omega (arith, abs-sub a b)

abbrev pub bits : ℤ → ℤ
bits z = to_z w32 (of_z w32 z)

pub subtracted : (a b x y : ℤ) → a ≡ x → b ≡ y → nat_abs x ≤ 16777216 → nat_abs y ≤ 16777216 → SFits w32 (bits a -ℤ bits b) × (bits (bits a -ℤ bits b) ≡ x -ℤ y)
subtracted a b x y ea eb p q =
    let e : bits a -ℤ bits b ≡ x -ℤ y = ap₂ (λ (m n : ℤ). m -ℤ n) (ap bits ea ∙ back32 x p) (ap bits eb ∙ back32 y q) in
    let s : SFits w32 (x -ℤ y) = record { sfits = mag_small (x -ℤ y) (apart x y p q) } in
    (subst (λ (z : ℤ). SFits w32 z) (sym e) s, ap bits e ∙ to_z-of_z w32 (x -ℤ y) s)

-- the free space of an accepted line is kept by an i32
pub free_bits : (inner gap : Float) (items : List Item) → Accepted inner gap items → (z : ℤ) → z ≡ free_before inner gap items → bits z ≡ z
free_bits inner gap items a z e = to_z-of_z w32 z (record { sfits = mag_small z (subst (λ (y : ℤ). nat_abs y ≤ 33554432) (sym e) (apart (sixty_fourths inner) (used_units gap items) a.inner_is.small (used_small gap items a.within))) })

-- ---- an outer size, in an i32

pub outer_small : (it : Item) → Measured it → nat_abs (outer_units it) ≤ 33554432
outer_small it m =
    let a = sixty_fourths (hypothetical it) in
    let b = sixty_fourths it.start +ℤ sixty_fourths it.end in
    sum (nat_abs (a +ℤ b)) (nat_abs a) (nat_abs b) (abs-add a b) (first-length it m).small (two (sixty_fourths it.start) (sixty_fourths it.end) m.start.small m.end.small)
  where
    sum : (x a b : ℕ) → x ≤ a + b → a ≤ 16777216 → b ≤ 2 ^ 24 → x ≤ 33554432
    sum x a b p q r = plain x a b p q (le_trans {m = 2 ^ 24} r (lit≤ tt))
      where
        plain : (x a b : ℕ) → x ≤ a + b → a ≤ 16777216 → b ≤ 16777216 → x ≤ 33554432
        plain x a b p q r = omega arith

pub margins_added : (it : Item) → Measured it → (b c : ℤ) → b ≡ sixty_fourths it.start → c ≡ sixty_fourths it.end
    → SFits w32 (bits b +ℤ bits c) × (bits (bits b +ℤ bits c) ≡ sixty_fourths it.start +ℤ sixty_fourths it.end)
margins_added it m b c eb ec =
    let y = sixty_fourths it.start in
    let z = sixty_fourths it.end in
    let e : bits b +ℤ bits c ≡ y +ℤ z = ap₂ (λ (m n : ℤ). m +ℤ n) (ap bits eb ∙ back32 y m.start.length.small) (ap bits ec ∙ back32 z m.end.length.small) in
    let s : SFits w32 (y +ℤ z) = record { sfits = mag_small (y +ℤ z) (le_trans {m = 2 ^ 24} (two y z m.start.small m.end.small) (lit≤ tt)) } in
    (subst (λ (z : ℤ). SFits w32 z) (sym e) s, ap bits e ∙ to_z-of_z w32 (y +ℤ z) s)

pub outer_added : (it : Item) → Measured it → (a b c : ℤ) → a ≡ sixty_fourths (hypothetical it) → b ≡ sixty_fourths it.start → c ≡ sixty_fourths it.end
    → SFits w32 (bits a +ℤ bits (bits b +ℤ bits c)) × (bits (bits a +ℤ bits (bits b +ℤ bits c)) ≡ outer_units it)
outer_added it m a b c ea eb ec =
    let x = sixty_fourths (hypothetical it) in
    let p = margins_added it m b c eb ec in
    let e : bits a +ℤ bits (bits b +ℤ bits c) ≡ outer_units it = ap₂ (λ (m n : ℤ). m +ℤ n) (ap bits ea ∙ back32 x (first-length it m).small) p.1 in
    let s : SFits w32 (outer_units it) = record { sfits = mag_small (outer_units it) (outer_small it m) } in
    (subst (λ (z : ℤ). SFits w32 z) (sym e) s, ap bits e ∙ to_z-of_z w32 (outer_units it) s)
