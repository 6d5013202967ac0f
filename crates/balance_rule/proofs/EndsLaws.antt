-- Laws of `Covers`: the whole range of ends, narrowing by a choice, and what the scan of one start finds. Assumes nothing.
use mathlib.Core.Path.{◌≡◌, ap, subst}
use mathlib.Core.Logic.{◌⊎◌, inl, inr}
use Prim.Native.Nat.{ℕ, suc, ◌+◌, ◌-◌, ◌≤◌, ◌<◌, min}
use native.Mathlib.Omega.{arith}
use Rattle.balance_rule.specs.Dp.{Argmin, Feas, Laws, Usable, Nonzero}
use Rattle.balance_rule.proofs.DpLaws.{lt_or_ge, Order, order, less, same, more, argmin_below, usable_dec, argmin_mono}
use Rattle.balance_rule.specs.Ends.{Covers}

module _ (n : ℕ) (F G : ℕ → ℕ) (Z : ℕ → Type 0) (w : ℕ → ℕ → ℕ) (L : Laws n F G Z w) (v : ℕ → ℕ) (k : ℕ) where
  nonzero_dec : (s t : ℕ) → Dec (Nonzero n F G Z k s t)
  nonzero_dec s t = go (usable_dec n F G Z w L k s t) (L.Z? t)
    where
      go : Dec (Usable n F G Z k s t) → Dec (Z t) → Dec (Nonzero n F G Z k s t)
      go (no p) q = no (λ h. p h.usable)
      go (yes p) (yes q) = no (λ h. h.nonzero q)
      go (yes p) (no q) = yes (record { usable = p; nonzero = q })

  -- where a nonzero end can be used, there is a choice among them
  pub nonzero_some : (s u : ℕ) → Nonzero n F G Z k s u → (m : ℕ) × Argmin (Nonzero n F G Z k s) (λ t. w s t + v t) m
  nonzero_some s u h = go (argmin_below (Nonzero n F G Z k s) (λ t. w s t + v t) (nonzero_dec s) (suc n))
    where
      in_list : (t : ℕ) → Nonzero n F G Z k s t → t < suc n
      in_list t g = omega (arith, g.usable.ok.inside)

      go : ((t : ℕ) → t < suc n → ¬ Nonzero n F G Z k s t) ⊎ ((t : ℕ) × (t < suc n) × Argmin (λ t. Nonzero n F G Z k s t × (t < suc n)) (λ t. w s t + v t) t)
          → (m : ℕ) × Argmin (Nonzero n F G Z k s) (λ t. w s t + v t) m
      go (inl g) = absurd (g u (in_list u h) h)
      go (inr g) = (
        g.0,
        record {
          has = g.2.has.0;
          least = λ t q. g.2.least t (q, in_list t q);
          last = λ t q l. g.2.last t (q, in_list t q) l;
        },
      )

  -- ---- all ends to begin with: those after which the rest can be divided
  pub covers_start : (s seen b : ℕ) → ((t : ℕ) → t < seen → k < G t) → b + k ≡ n → Covers n F G Z w v k (seen - 1) b s
  covers_start s seen b early e = record { above = λ m h. go m h (lt_or_ge m seen); below = λ m h. omega (arith, h.has.usable.feas.room) }
    where
      go : (m : ℕ) → Argmin (Nonzero n F G Z k s) (λ t. w s t + v t) m → (m < seen) ⊎ (seen ≤ m) → seen - 1 < m
      go m h (inl q) = absurd (omega (arith, early m q, h.has.usable.feas.enough))
      go m h (inr q) = omega (arith, h.has.usable.ok.some)

  -- ---- narrowing by the end e that the start s chose
  module _ (a b e s : ℕ) (A : Argmin (Nonzero n F G Z k s) (λ t. w s t + v t) (e + 1)) where
    pub narrow_left : (r : ℕ) → r < s → Covers n F G Z w v k a b r → Covers n F G Z w v k a (e + 1) r
    narrow_left r l h = record { above = h.above; below = λ m g. argmin_mono n F G Z w L k v r s m (e + 1) l g A }

    pub narrow_right : (r : ℕ) → s < r → Covers n F G Z w v k a b r → Covers n F G Z w v k e b r
    narrow_right r l h = record { above = λ m g. omega (arith, argmin_mono n F G Z w L k v s r (e + 1) m l A g); below = h.below }

  -- ---- what the scan of one start finds. The ends from a up to b cover s, and they leave what can be divided. Those before `first` end before s or precede
  -- a zero item, and those from `stop` on are too far.
  pub record Scan (s a b first stop : ℕ) : Type 0 where
    pub from_a : a ≤ first
    pub from_s : s ≤ first
    pub zeros : (e : ℕ) → a ≤ e → s ≤ e → e < first → Z (e + 1)
    pub stop_is : stop ≡ min b (F s)
    pub feas : (e : ℕ) → a ≤ e → e < b → Feas n G (e + 1) k

  module _ (s a b first stop : ℕ) (S : Scan s a b first stop) where
    -- no later start needs an end before `first`
    pub skip_right : (r : ℕ) → s < r → Covers n F G Z w v k a b r → Covers n F G Z w v k first b r
    skip_right r l h = record { above = λ m g. go m g (lt_or_ge (m - 1) first); below = h.below }
      where
        go : (m : ℕ) → Argmin (Nonzero n F G Z k r) (λ t. w r t + v t) m → (m - 1 < first) ⊎ (first ≤ m - 1) → first < m
        go m g (inr q) = omega (arith, g.has.usable.ok.some)
        go m g (inl q) =
            let rm : r < m = g.has.usable.ok.some in
            let e : m - 1 + 1 ≡ m = omega arith in
            absurd (g.has.nonzero (subst Z e (S.zeros (m - 1) (omega (arith, h.above m g)) (omega arith) q)))

    -- an end of the scan is a nonzero end
    pub scan_in : (e : ℕ) → first ≤ e → e < stop → ¬ Z (e + 1) → Nonzero n F G Z k s (e + 1)
    scan_in e p q z =
        let f : Feas n G (e + 1) k = S.feas e (omega (arith, S.from_a)) (omega (arith, S.stop_is)) in
        record {
          usable = record {
            ok = record {
              some = omega (arith, S.from_s);
              inside = omega (arith, f.room);
              fit = omega (arith, S.stop_is);
              glue = λ _ y. absurd (z y);
            };
            feas = f;
          };
          nonzero = z;
        }

    module _ (H : Covers n F G Z w v k a b s) where
      -- and the choice among the nonzero ends is an end of the scan
      scan_has : (m : ℕ) → Argmin (Nonzero n F G Z k s) (λ t. w s t + v t) m → (e : ℕ) × (first ≤ e) × (e < stop) × (e + 1 ≡ m)
      scan_has m g = (m - 1, lo (lt_or_ge (m - 1) first), omega (arith, H.below m g, g.has.usable.ok.fit, S.stop_is), e_is)
        where
          sm : s < m
          sm = g.has.usable.ok.some

          e_is : m - 1 + 1 ≡ m
          e_is = omega (arith, sm)

          lo : (m - 1 < first) ⊎ (first ≤ m - 1) → first ≤ m - 1
          lo (inl q) = absurd (g.has.nonzero (subst Z e_is (S.zeros (m - 1) (omega (arith, H.above m g)) (omega (arith, sm)) q)))
          lo (inr q) = q

      -- no end can be used: no nonzero end can be
      pub scan_none : stop ≤ first → (t : ℕ) → ¬ Nonzero n F G Z k s t
      scan_none h t g = go (nonzero_some s t g)
        where
          go : (m : ℕ) × Argmin (Nonzero n F G Z k s) (λ t. w s t + v t) m → ⊥
          go (m, r) = let q : (e : ℕ) × (first ≤ e) × (e < stop) × (e + 1 ≡ m) = scan_has m r in omega (arith, q.1, q.2)

      -- the last of the least ends is the choice among the nonzero ends
      pub scan_some : (c : ℕ) → Argmin (λ e. (first ≤ e) × (e < stop) × (¬ Z (e + 1))) (λ e. w s (e + 1) + v (e + 1)) c
          → Argmin (Nonzero n F G Z k s) (λ t. w s t + v t) (c + 1)
      scan_some c A = go (nonzero_some s (c + 1) here)
        where
          here : Nonzero n F G Z k s (c + 1)
          here = scan_in c A.has.0 A.has.1 A.has.2

          go : (m : ℕ) × Argmin (Nonzero n F G Z k s) (λ t. w s t + v t) m → Argmin (Nonzero n F G Z k s) (λ t. w s t + v t) (c + 1)
          go (m, r) = at (scan_has m r)
            where
              at : (e : ℕ) × (first ≤ e) × (e < stop) × (e + 1 ≡ m) → Argmin (Nonzero n F G Z k s) (λ t. w s t + v t) (c + 1)
              at (e, p, q, i) = rw is r
                where
                  plain : ¬ Z (e + 1)
                  plain z = r.has.nonzero (subst Z i z)

                  cost_is : w s (e + 1) + v (e + 1) ≡ w s m + v m
                  cost_is = ap (λ (t : ℕ). w s t + v t) i

                  is : c + 1 ≡ m
                  is = by (order c e)
                    where
                      by : Order c e → c + 1 ≡ m
                      by (same l) = omega (arith, i)
                      by (less l) = absurd (omega (arith, A.last e (p, q, plain) l, r.least (c + 1) here, cost_is))
                      by (more l) = absurd (omega (arith, A.least e (p, q, plain), r.last (c + 1) here (omega (arith, i)), cost_is))
