-- Laws of the dynamic program of `specs/Dp.antt`: greedy counts, the far end, monotone choices, merging, optimality, existence. Assumes nothing: what is asked of
-- F, G, Z and w is the record `Laws`.
use mathlib.Core.Path.{◌≡◌, refl, sym, ap, subst, ◌∙◌}
use mathlib.Core.Logic.{◌⊎◌, inl, inr}
use mathlib.Core.List.{List, [], ◌∷◌, ◌++◌, append_assoc}
use Prim.Native.Nat.{ℕ, zero, suc, ◌+◌, ◌-◌, ◌≤◌, ◌<◌, min}
use native.Mathlib.Nat.{le_refl, suc_inj, add-zero}
use native.Mathlib.Decide.{dec_le, dec_lt}
use native.Mathlib.Omega.{arith}
use lib.ListN.{length}
use Rattle.balance_rule.proofs.Unique.{more_asym}
use Rattle.balance_rule.specs.Dp.{Argmin, Ok, ValidAt, score_at, BetterAt, BestAt, Feas, Laws, Usable, Nonzero, Costs}

-- which of the two holds, as a value to match on
pub lt_or_ge : (a b : ℕ) → (a < b) ⊎ (b ≤ a)
lt_or_ge a b = go (dec_lt a b)
  where
    go : Dec (a < b) → (a < b) ⊎ (b ≤ a)
    go (yes p) = inl p
    go (no p) = inr (omega arith)

pub data Order (a b : ℕ) : Type 0 where
  less : a < b → Order a b
  same : a ≡ b → Order a b
  more : b < a → Order a b

pub order : (a b : ℕ) → Order a b
order a b = go (lt_or_ge a b) (lt_or_ge b a)
  where
    go : (a < b) ⊎ (b ≤ a) → (b < a) ⊎ (a ≤ b) → Order a b
    go (inl p) q = less p
    go (inr p) (inl q) = more q
    go (inr p) (inr q) = same (omega arith)

pub argmin_one : (U : ℕ → Type 0) (c : ℕ → ℕ) (a b : ℕ) → Argmin U c a → Argmin U c b → a ≡ b
argmin_one U c a b p q = go (order a b)
  where
    go : Order a b → a ≡ b
    go (same e) = e
    go (less l) = let h : c a < c b = p.last b q.has l in let g : c b ≤ c a = q.least a p.has in omega arith
    go (more l) = let h : c b < c a = q.last a p.has l in let g : c a ≤ c b = p.least b q.has in omega arith

-- of finitely many numbers below m: none has U, or one is the last of the least
pub argmin_below : (U : ℕ → Type 0) (c : ℕ → ℕ) → ((t : ℕ) → Dec (U t)) → (m : ℕ)
    → ((t : ℕ) → t < m → ¬ U t) ⊎ ((t : ℕ) × (t < m) × Argmin (λ u. U u × (u < m)) c t)
argmin_below U c d zero = inl (λ t l. absurd (omega arith))
argmin_below U c d (suc m) = go (argmin_below U c d m) (d m)
  where
    R : Type 0
    R = ((t : ℕ) → t < suc m → ¬ U t) ⊎ ((t : ℕ) × (t < suc m) × Argmin (λ u. U u × (u < suc m)) c t)

    below : (u : ℕ) → u < suc m → ¬ (u ≡ m) → u < m
    below u l f = go' (order u m)
      where
        go' : Order u m → u < m
        go' (less p) = p
        go' (same p) = absurd (f p)
        go' (more p) = omega arith

    -- m is put in
    win : U m → ((u : ℕ) → U u → u < m → c m ≤ c u) → R
    win um f = inr (
      m,
      omega arith,
      record {
        has = (um, omega arith);
        least = λ u h. at u h (order u m);
        last = λ u h l. let g : u < suc m = h.1 in omega arith;
      },
    )
      where
        at : (u : ℕ) → U u × (u < suc m) → Order u m → c m ≤ c u
        at u h (less l) = f u h.0 l
        at u h (same e) = rw e (le_refl (c m))
        at u h (more l) = let g : u < suc m = h.1 in omega arith

    go : ((t : ℕ) → t < m → ¬ U t) ⊎ ((t : ℕ) × (t < m) × Argmin (λ u. U u × (u < m)) c t) → Dec (U m) → R
    go (inl f) (yes um) = win um (λ u h l. absurd (f u l h))
    go (inl f) (no um) = inl (λ t l h. at t l h (order t m))
      where
        at : (t : ℕ) → t < suc m → U t → Order t m → ⊥
        at t l h (less p) = f t p h
        at t l h (same e) = um (rw e at h)
        at t l h (more p) = omega arith
    go (inr r) (no um) = inr (
      r.0,
      (let g : r.0 < m = r.1 in omega arith),
      record {
        has = (r.2.has.0, (let g : r.0 < m = r.1 in omega arith));
        least = λ u h. r.2.least u (h.0, below u h.1 (λ e. um (subst U e h.0)));
        last = λ u h l. r.2.last u (h.0, below u h.1 (λ e. um (subst U e h.0))) l;
      },
    )
    go (inr r) (yes um) = pick (lt_or_ge (c r.0) (c m))
      where
        pick : (c r.0 < c m) ⊎ (c m ≤ c r.0) → R
        pick (inr g) = win um (λ u h l. let q : c r.0 ≤ c u = r.2.least u (h, l) in omega arith)
        pick (inl g) = inr (
          r.0,
          (let q : r.0 < m = r.1 in omega arith),
          record {
            has = (r.2.has.0, (let q : r.0 < m = r.1 in omega arith));
            least = λ u h. at u h (order u m);
            last = λ u h l. at' u h l (order u m);
          },
        )
          where
            at : (u : ℕ) → U u × (u < suc m) → Order u m → c r.0 ≤ c u
            at u h (less p) = r.2.least u (h.0, p)
            at u h (same e) = rw e (omega arith)
            at u h (more p) = let q : u < suc m = h.1 in omega arith

            at' : (u : ℕ) → U u × (u < suc m) → r.0 < u → Order u m → c r.0 < c u
            at' u h l (less p) = r.2.last u (h.0, p) l
            at' u h l (same e) = rw e g
            at' u h l (more p) = let q : u < suc m = h.1 in omega arith

feas_dec : (n : ℕ) (G : ℕ → ℕ) (s k : ℕ) → Dec (Feas n G s k)
feas_dec n G s k = go (dec_le (G s) k) (dec_le (s + k) n)
  where
    go : Dec (G s ≤ k) → Dec (s + k ≤ n) → Dec (Feas n G s k)
    go (yes p) (yes q) = yes (record { enough = p; room = q })
    go (yes p) (no q) = no (λ f. q f.room)
    go (no p) q = no (λ f. p f.enough)

-- how far the first line may go, by the limit and by the k lines after it
abbrev pub far : (n : ℕ) (F : ℕ → ℕ) → ℕ → ℕ → ℕ
far n F s k = min (F s) (n - k)

-- READING BACK: p holds the counts of the lines before s. Whatever the choice for the rest is, p with it is the choice for the whole.
unfoldable pub Reads : (n : ℕ) (F : ℕ → ℕ) (Z : ℕ → Type 0) (w : ℕ → ℕ → ℕ) → ℕ → List ℕ → ℕ → ℕ → Type 0
Reads n F Z w K p s k = (d : List ℕ) → BestAt n F Z w s k d → BestAt n F Z w 0 K (p ++ d)

module _ (n : ℕ) (F G : ℕ → ℕ) (Z : ℕ → Type 0) (w : ℕ → ℕ → ℕ) (L : Laws n F G Z w) where
  -- ---- the greedy count

  -- an earlier start needs no fewer lines
  g_mono_fuel : (m s t : ℕ) → n ≤ s + m → s ≤ t → t ≤ n → G t ≤ G s
  g_mono_fuel zero s t f l h = let e : s ≡ t = omega arith in rw e (le_refl (G t))
  g_mono_fuel (suc m) s t f l h = go (g_mono_fuel m (F s) (F t)) (lt_or_ge t n)
    where
      go : (n ≤ F s + m → F s ≤ F t → F t ≤ n → G (F t) ≤ G (F s)) → (t < n) ⊎ (n ≤ t) → G t ≤ G s
      go r (inr g) = let e : t ≡ n = omega arith in let z : G t ≡ 0 = rw e L.g_end in omega arith
      go r (inl g) =
          let a : F s ≤ F t = L.f_mono s t l g in
          let b : s < F s = L.f_lo s (omega arith) in
          let c : F t ≤ n = L.f_hi t g in
          let ih : G (F t) ≤ G (F s) = r (omega arith) a c in
          omega (arith, L.g_step s (omega arith), L.g_step t g)

  pub g_mono : (s t : ℕ) → s ≤ t → t ≤ n → G t ≤ G s
  g_mono s t l h = g_mono_fuel n s t (omega arith) l h

  -- no more lines than items
  g_le_fuel : (m s : ℕ) → n ≤ s + m → s ≤ n → G s + s ≤ n
  g_le_fuel zero s f h = let e : s ≡ n = omega arith in let z : G s ≡ 0 = rw e L.g_end in omega arith
  g_le_fuel (suc m) s f h = go (g_le_fuel m (F s)) (lt_or_ge s n)
    where
      go : (n ≤ F s + m → F s ≤ n → G (F s) + F s ≤ n) → (s < n) ⊎ (n ≤ s) → G s + s ≤ n
      go r (inr g) = let e : s ≡ n = omega arith in let z : G s ≡ 0 = rw e L.g_end in omega arith
      go r (inl g) =
          let b : s < F s = L.f_lo s g in
          let ih : G (F s) + F s ≤ n = r (omega arith) (L.f_hi s g) in
          omega (arith, L.g_step s g)

  pub g_le : (s : ℕ) → s ≤ n → G s + s ≤ n
  g_le s h = g_le_fuel n s (omega arith) h

  pub g_pos : (s : ℕ) → s < n → 0 < G s
  g_pos s h = omega (arith, L.g_step s h)

  -- of any valid division the greedy count is at most the line count
  pub valid_feas : (s : ℕ) (d : List ℕ) → ValidAt n F Z s d → Feas n G s (length d)
  valid_feas s [] v = let z : G s ≡ 0 = rw v L.g_end in record { enough = omega arith; room = omega arith }
  valid_feas s (c ∷ d) (o, v) =
      let ih : Feas n G (s + c) (length d) = valid_feas (s + c) d v in
      let a : s < s + c = o.some in
      let b : s + c ≤ F s = o.fit in
      let i : s + c ≤ n = o.inside in
      let g : G (F s) ≤ G (s + c) = g_mono (s + c) (F s) b (L.f_hi s (omega arith)) in
      record { enough = omega (arith, L.g_step s (omega arith)); room = omega arith }

  pub feas_end : (s : ℕ) → Feas n G s 0 → s ≡ n
  feas_end s f = go (lt_or_ge s n)
    where
      go : (s < n) ⊎ (n ≤ s) → s ≡ n
      go (inl g) = omega (arith, g_pos s g)
      go (inr g) = omega arith

  -- ---- the first line

  -- the longest first line is allowed, and what it leaves can be divided: so where the greedy count allows k lines a valid division exists
  pub far_ok : (s k : ℕ) → Feas n G s (suc k) → Ok n F Z s (far n F s k) k × Feas n G (far n F s k) k
  far_ok s k f = go (lt_or_ge (n - k) (F s))
    where
      sn : s < n
      sn = omega (arith, f.room)

      go : (n - k < F s) ⊎ (F s ≤ n - k) → Ok n F Z s (far n F s k) k × Feas n G (far n F s k) k
      go (inl g) =
          let e : far n F s k ≡ n - k = omega arith in
          let q : G (far n F s k) + far n F s k ≤ n = g_le (far n F s k) (omega arith) in (
            record { some = omega (arith, f.room); inside = omega arith; fit = omega arith; glue = λ _ _. inr (omega (arith, f.room)) },
            record { enough = omega (arith, f.room); room = omega (arith, f.room) },
          )
      go (inr g) =
          let e : far n F s k ≡ F s = omega arith in
          let q : G (far n F s k) ≡ G (F s) = ap G e in (
            record { some = omega (arith, L.f_lo s sn); inside = omega arith; fit = omega arith; glue = λ _ _. inl (omega arith) },
            record { enough = omega (arith, f.enough, L.g_step s sn); room = omega (arith, f.room) },
          )

  -- a line that ends before a zero item goes as far as it can
  pub zero_far : (s t k : ℕ) → 0 < k → Ok n F Z s t k → t + k ≤ n → Z t → t ≡ far n F s k
  zero_far s t k p o r z = go (o.glue (omega arith) z)
    where
      go : (F s ≤ t) ⊎ (n < t + 1 + k) → t ≡ far n F s k
      go (inl g) = omega (arith, o.fit)
      go (inr g) = omega (arith, o.fit)

  -- a later start may use any end that it has not passed, and an earlier start any end that its line can reach
  pub nonzero_up : (k s s' t : ℕ) → s ≤ s' → s' < t → Nonzero n F G Z k s t → Nonzero n F G Z k s' t
  nonzero_up k s s' t l h u =
      let i : t ≤ n = u.usable.ok.inside in
      let a : t ≤ F s = u.usable.ok.fit in
      record {
        usable = record {
          ok = record { some = h; inside = i; fit = omega (arith, L.f_mono s s' l (omega arith)); glue = λ _ z. absurd (u.nonzero z) };
          feas = u.usable.feas;
        };
        nonzero = u.nonzero;
      }

  pub nonzero_down : (k s s' t : ℕ) → s ≤ s' → t ≤ F s → Nonzero n F G Z k s' t → Nonzero n F G Z k s t
  nonzero_down k s s' t l h u =
      record {
        usable = record {
          ok = record { some = omega (arith, u.usable.ok.some); inside = u.usable.ok.inside; fit = h; glue = λ _ z. absurd (u.nonzero z) };
          feas = u.usable.feas;
        };
        nonzero = u.nonzero;
      }

  -- THE ENDS CHOSEN AMONG THE NONZERO ONES DO NOT FALL AS THE START RISES: v t is what the items from t on cost
  pub argmin_mono : (k : ℕ) (v : ℕ → ℕ) (s s' m m' : ℕ) → s < s'
      → Argmin (Nonzero n F G Z k s) (λ t. w s t + v t) m → Argmin (Nonzero n F G Z k s') (λ t. w s' t + v t) m' → m ≤ m'
  argmin_mono k v s s' m m' l a b = go (lt_or_ge m' m)
    where
      go : (m' < m) ⊎ (m ≤ m') → m ≤ m'
      go (inr g) = g
      go (inl g) =
          let s'm' : s' < m' = b.has.usable.ok.some in
          let mF : m ≤ F s = a.has.usable.ok.fit in
          let d : Nonzero n F G Z k s m' = nonzero_down k s s' m' (omega arith) (omega arith) b.has in
          let u : Nonzero n F G Z k s' m = nonzero_up k s s' m (omega arith) (omega arith) a.has in
          let x : w s m + v m ≤ w s m' + v m' = a.least m' d in
          let y : w s' m' + v m' < w s' m + v m = b.last m u g in
          let q : w s m' + w s' m ≤ w s m + w s' m' = L.quad s s' m' m (omega arith) s'm' (omega arith) a.has.usable.ok.inside in
          omega arith

  -- MERGING: from the choice among the nonzero ends to the choice among all. The one other candidate is `far n F s k`, where a zero item follows it.
  module _ (k s : ℕ) (kpos : 0 < k) (f : Feas n G s (suc k)) (c : ℕ → ℕ) where
    far_use : Usable n F G Z k s (far n F s k)
    far_use = record { ok = (far_ok s k f).0; feas = (far_ok s k f).1 }

    split : (t : ℕ) → Usable n F G Z k s t → Nonzero n F G Z k s t ⊎ (Z t × (t ≡ far n F s k))
    split t u = go (L.Z? t)
      where
        go : Dec (Z t) → Nonzero n F G Z k s t ⊎ (Z t × (t ≡ far n F s k))
        go (yes z) = inr (z, zero_far s t k kpos u.ok u.feas.room z)
        go (no z) = inl (record { usable = u; nonzero = z })

    -- no zero item follows: the choice stands
    pub merge_plain : ¬ Z (far n F s k) → (m : ℕ) → Argmin (Nonzero n F G Z k s) c m → Argmin (Usable n F G Z k s) c m
    merge_plain nz m a = record {
      has = a.has.usable;
      least = λ u h. a.least u (nonz u h (split u h));
      last = λ u h. a.last u (nonz u h (split u h));
    }
      where
        nonz : (t : ℕ) → Usable n F G Z k s t → Nonzero n F G Z k s t ⊎ (Z t × (t ≡ far n F s k)) → Nonzero n F G Z k s t
        nonz t u (inl g) = g
        nonz t u (inr g) = absurd (nz (subst Z g.1 g.0))

    -- there is no nonzero end: the far end is the only one
    pub merge_only : ((t : ℕ) → ¬ Nonzero n F G Z k s t) → Argmin (Usable n F G Z k s) c (far n F s k)
    merge_only nz = record {
      has = far_use;
      least = λ u h. let e : u ≡ far n F s k = is u h (split u h) in rw e (le_refl (c (far n F s k)));
      last = λ u h l. let e : u ≡ far n F s k = is u h (split u h) in absurd (omega arith);
    }
      where
        is : (t : ℕ) → Usable n F G Z k s t → Nonzero n F G Z k s t ⊎ (Z t × (t ≡ far n F s k)) → t ≡ far n F s k
        is t u (inl g) = absurd (nz t g)
        is t u (inr g) = g.1

    -- the far end costs less, or as much and lies further on
    pub merge_far : (m : ℕ) → Argmin (Nonzero n F G Z k s) c m → (c (far n F s k) < c m) ⊎ ((c (far n F s k) ≡ c m) × (m < far n F s k)) → Argmin (Usable n F G Z k s) c (far n F s k)
    merge_far m a w = record {
      has = far_use;
      least = λ u h. least' u (split u h);
      last = λ u h l. last' u (split u h) l;
    }
      where
        le_m : (c (far n F s k) < c m) ⊎ ((c (far n F s k) ≡ c m) × (m < far n F s k)) → c (far n F s k) ≤ c m
        le_m (inl g) = omega arith
        le_m (inr g) = omega arith

        least' : (u : ℕ) → Nonzero n F G Z k s u ⊎ (Z u × (u ≡ far n F s k)) → c (far n F s k) ≤ c u
        least' u (inl g) = omega (arith, a.least u g, le_m w)
        least' u (inr g) = rw g.1 (le_refl (c (far n F s k)))

        last_m : (u : ℕ) → Nonzero n F G Z k s u → far n F s k < u → (c (far n F s k) < c m) ⊎ ((c (far n F s k) ≡ c m) × (m < far n F s k)) → c (far n F s k) < c u
        last_m u g l (inl h) = omega (arith, a.least u g)
        last_m u g l (inr h) = omega (arith, a.last u g (omega arith))

        last' : (u : ℕ) → Nonzero n F G Z k s u ⊎ (Z u × (u ≡ far n F s k)) → far n F s k < u → c (far n F s k) < c u
        last' u (inl g) l = last_m u g l w
        last' u (inr g) l = let e : u ≡ far n F s k = g.1 in absurd (omega arith)

    -- the far end costs more, or as much and lies no further on
    pub merge_near : (m : ℕ) → Argmin (Nonzero n F G Z k s) c m → (c m < c (far n F s k)) ⊎ ((c m ≡ c (far n F s k)) × (far n F s k ≤ m)) → Argmin (Usable n F G Z k s) c m
    merge_near m a w = record {
      has = a.has.usable;
      least = λ u h. least' u (split u h) w;
      last = λ u h l. last' u (split u h) l w;
    }
      where
        W : Type 0
        W = (c m < c (far n F s k)) ⊎ ((c m ≡ c (far n F s k)) × (far n F s k ≤ m))

        least' : (u : ℕ) → Nonzero n F G Z k s u ⊎ (Z u × (u ≡ far n F s k)) → W → c m ≤ c u
        least' u (inl g) h = a.least u g
        least' u (inr g) (inl h) = rw g.1 (omega arith)
        least' u (inr g) (inr h) = rw g.1 (omega arith)

        last' : (u : ℕ) → Nonzero n F G Z k s u ⊎ (Z u × (u ≡ far n F s k)) → m < u → W → c m < c u
        last' u (inl g) l h = a.last u g l
        last' u (inr g) l (inl h) = rw g.1 h
        last' u (inr g) l (inr h) = let e : u ≡ far n F s k = g.1 in absurd (omega arith)

  -- ---- the principle of optimality

  pub best_least : (s k : ℕ) (d e : List ℕ) → BestAt n F Z w s k d → ValidAt n F Z s e → length e ≡ k → score_at w s d ≤ score_at w s e
  best_least s k d e b v l = go (b.best e v l)
    where
      go : (d ≡ e) ⊎ BetterAt w s d e → score_at w s d ≤ score_at w s e
      go (inl p) = rw p (le_refl (score_at w s e))
      go (inr (inl p)) = omega arith
      go (inr (inr p)) = omega arith

  -- ONE LINE MORE: v u is the total of the choice for the items from u on, wherever the line may end at u, and t is the last of the least
  module _ (k s t : ℕ) (v : ℕ → ℕ) (costs : (u : ℕ) → Usable n F G Z k s u → Costs n F Z w k u (v u))
      (a : Argmin (Usable n F G Z k s) (λ u. w s u + v u) t) where
    back : s + (t - s) ≡ t
    back = omega (arith, a.has.ok.some)

    -- any choice d for the rest makes a choice
    pub extend : (d : List ℕ) → BestAt n F Z w t k d → BestAt n F Z w s (suc k) ((t - s) ∷ d)
    extend d b = record {
      valid = (rw (back, b.lines) a.has.ok, rw back b.valid);
      lines = ap suc b.lines;
      best = other;
    }
      where
        x : ℕ
        x = score_at w t d

        total_is : score_at w s ((t - s) ∷ d) ≡ w s t + x
        total_is = rw back

        x_is : x ≡ v t
        x_is =
            let c : Costs n F Z w k t (v t) = costs t a.has in
            let p : score_at w t d ≤ score_at w t c.division = best_least t k d c.division b c.best.valid c.best.lines in
            let q : score_at w t c.division ≤ score_at w t d = best_least t k c.division d c.best b.valid b.lines in
            omega (arith, c.total)

        other : (e : List ℕ) → ValidAt n F Z s e → length e ≡ suc k → ((t - s) ∷ d ≡ e) ⊎ BetterAt w s ((t - s) ∷ d) e
        other [] ve le = absurd (omega arith)
        other (c ∷ e) (oe, ve) le = go (order t u)
          where
            u : ℕ
            u = s + c

            k_is : length e ≡ k
            k_is = suc_inj le

            fe : Feas n G (s + c) k
            fe = rw k_is at (valid_feas (s + c) e ve)

            ue : Usable n F G Z k s (s + c)
            ue = record { ok = rw k_is at oe; feas = fe }

            rest : v (s + c) ≤ score_at w (s + c) e
            rest =
                let q : Costs n F Z w k (s + c) (v (s + c)) = costs (s + c) ue in
                omega (arith, best_least (s + c) k q.division e q.best ve k_is, q.total)

            low : w s t + v t ≤ w s (s + c) + v (s + c)
            low = a.least (s + c) ue

            go : Order t u → ((t - s) ∷ d ≡ c ∷ e) ⊎ BetterAt w s ((t - s) ∷ d) (c ∷ e)
            go (less l) = inr (inl (omega (arith, total_is, x_is, rest, a.last (s + c) ue l)))
            go (more l) = tie (lt_or_ge (score_at w s ((t - s) ∷ d)) (score_at w s (c ∷ e)))
              where
                tie : (score_at w s ((t - s) ∷ d) < score_at w s (c ∷ e)) ⊎ (score_at w s (c ∷ e) ≤ score_at w s ((t - s) ∷ d)) → ((t - s) ∷ d ≡ c ∷ e) ⊎ BetterAt w s ((t - s) ∷ d) (c ∷ e)
                tie (inl h) = inr (inl h)
                tie (inr h) = inr (inr (omega (arith, total_is, x_is, rest, low), inl (omega arith)))
            go (same h) = tie (b.best e (rw (← h) at ve) k_is)
              where
                c_is : t - s ≡ c
                c_is = omega arith

                score_is : score_at w s (c ∷ e) ≡ w s t + score_at w t e
                score_is = rw (← h)

                tie : (d ≡ e) ⊎ BetterAt w t d e → ((t - s) ∷ d ≡ c ∷ e) ⊎ BetterAt w s ((t - s) ∷ d) (c ∷ e)
                tie (inl p) = inl (rw (c_is, p))
                tie (inr (inl p)) = inr (inl (omega (arith, total_is, score_is)))
                tie (inr (inr p)) = inr (inr (omega (arith, total_is, score_is), inr (c_is, p.1)))

    pub extend_costs : Costs n F Z w (suc k) s (w s t + v t)
    extend_costs =
        let c : Costs n F Z w k t (v t) = costs t a.has in
        record { division = (t - s) ∷ c.division; best = extend c.division c.best; total = rw back (rw c.total) }

  -- ---- existence, and the first row

  pub ok_dec : (s t k : ℕ) → Dec (Ok n F Z s t k)
  ok_dec s t k = go (dec_lt s t) (dec_le t n) (dec_le t (F s)) (dec_lt t n) (L.Z? t) (dec_le (F s) t) (dec_lt n (t + 1 + k))
    where
      go : Dec (s < t) → Dec (t ≤ n) → Dec (t ≤ F s) → Dec (t < n) → Dec (Z t) → Dec (F s ≤ t) → Dec (n < t + 1 + k) → Dec (Ok n F Z s t k)
      go (no a) b c d e f g = no (λ o. a o.some)
      go (yes a) (no b) c d e f g = no (λ o. b o.inside)
      go (yes a) (yes b) (no c) d e f g = no (λ o. c o.fit)
      go (yes a) (yes b) (yes c) (no d) e f g = yes (record { some = a; inside = b; fit = c; glue = λ l z. absurd (d l) })
      go (yes a) (yes b) (yes c) (yes d) (no e) f g = yes (record { some = a; inside = b; fit = c; glue = λ l z. absurd (e z) })
      go (yes a) (yes b) (yes c) (yes d) (yes e) (yes f) g = yes (record { some = a; inside = b; fit = c; glue = λ l z. inl f })
      go (yes a) (yes b) (yes c) (yes d) (yes e) (no f) (yes g) = yes (record { some = a; inside = b; fit = c; glue = λ l z. inr g })
      go (yes a) (yes b) (yes c) (yes d) (yes e) (no f) (no g) = no (λ o. neither (o.glue d e))
        where
          neither : (F s ≤ t) ⊎ (n < t + 1 + k) → ⊥
          neither (inl p) = f p
          neither (inr p) = g p

  pub usable_dec : (k s t : ℕ) → Dec (Usable n F G Z k s t)
  usable_dec k s t = go (ok_dec s t k) (feas_dec n G t k)
    where
      go : Dec (Ok n F Z s t k) → Dec (Feas n G t k) → Dec (Usable n F G Z k s t)
      go (yes p) (yes q) = yes (record { ok = p; feas = q })
      go (yes p) (no q) = no (λ u. q u.feas)
      go (no p) q = no (λ u. p u.ok)

  best_none : BestAt n F Z w n 0 []
  best_none = record { valid = refl; lines = refl; best = one }
    where
      one : (e : List ℕ) → ValidAt n F Z n e → length e ≡ 0 → ([] ≡ e) ⊎ BetterAt w n [] e
      one [] v l = inl refl
      one (c ∷ e) v l = absurd (omega arith)

  exists_step : (k : ℕ) → ((u : ℕ) → Feas n G u k → (x : ℕ) × Costs n F Z w k u x) → (s : ℕ) → Feas n G s (suc k) → (x : ℕ) × Costs n F Z w (suc k) s x
  exists_step k r s f = go (argmin_below (Usable n F G Z k s) (λ u. w s u + v u) (usable_dec k s) (suc n))
    where
      at : (u : ℕ) → Dec (Feas n G u k) → ℕ
      at u (yes g) = (r u g).0
      at u (no g) = 0

      v : ℕ → ℕ
      v u = at u (feas_dec n G u k)

      at_costs : (u : ℕ) (d : Dec (Feas n G u k)) → Feas n G u k → Costs n F Z w k u (at u d)
      at_costs u (yes g) h = (r u g).1
      at_costs u (no g) h = absurd (g h)

      in_list : (u : ℕ) → Usable n F G Z k s u → u < suc n
      in_list u h = omega (arith, h.ok.inside)

      go : ((t : ℕ) → t < suc n → ¬ Usable n F G Z k s t) ⊎ ((t : ℕ) × (t < suc n) × Argmin (λ u. Usable n F G Z k s u × (u < suc n)) (λ u. w s u + v u) t)
          → (x : ℕ) × Costs n F Z w (suc k) s x
      go (inl g) =
          let q : Usable n F G Z k s (far n F s k) = record { ok = (far_ok s k f).0; feas = (far_ok s k f).1 } in
          absurd (g (far n F s k) (in_list (far n F s k) q) q)
      go (inr g) = (
        w s g.0 + v g.0,
        extend_costs k s g.0 v (λ u h. at_costs u (feas_dec n G u k) h.feas) (record {
          has = g.2.has.0;
          least = λ u h. g.2.least u (h, in_list u h);
          last = λ u h l. g.2.last u (h, in_list u h) l;
        }),
      )

  -- WHEREVER THE GREEDY COUNT AND THE ITEMS ALLOW k LINES, A CHOSEN DIVISION EXISTS
  pub exists : (k s : ℕ) → Feas n G s k → (x : ℕ) × Costs n F Z w k s x
  exists zero s f = (0, record { division = []; best = rw (feas_end s f) best_none; total = refl })
  exists (suc k) s f = exists_step k (exists k) s f

  -- the choice is one, and so is its total
  pub best_one : (s k : ℕ) (d e : List ℕ) → BestAt n F Z w s k d → BestAt n F Z w s k e → d ≡ e
  best_one s k d e a b = go (a.best e b.valid b.lines) (b.best d a.valid a.lines)
    where
      go : (d ≡ e) ⊎ BetterAt w s d e → (e ≡ d) ⊎ BetterAt w s e d → d ≡ e
      go (inl p) q = p
      go (inr p) (inl q) = sym q
      go (inr (inl p)) (inr (inl q)) = absurd (omega arith)
      go (inr (inl p)) (inr (inr q)) = absurd (omega arith)
      go (inr (inr p)) (inr (inl q)) = absurd (omega arith)
      go (inr (inr p)) (inr (inr q)) = absurd (more_asym d e p.1 q.1)

  pub costs_one : (k s x y : ℕ) → Costs n F Z w k s x → Costs n F Z w k s y → x ≡ y
  costs_one k s x y a b =
      sym a.total ∙ ap (score_at w s) (best_one s k a.division b.division a.best b.best) ∙ b.total

  -- THE FIRST ROW: one line takes all that is left, where that is allowed
  pub none_costs : (u : ℕ) → Feas n G u 0 → Costs n F Z w 0 u 0
  none_costs u h = record { division = []; best = rw (feas_end u h) best_none; total = refl }

  one_argmin : (s : ℕ) → Feas n G s 1 → Argmin (Usable n F G Z 0 s) (λ u. w s u + 0) n
  one_argmin s f = record {
    has = end;
    least = λ u h. let e : u ≡ n = feas_end u h.feas in rw e (le_refl (w s n + 0));
    last = λ u h l. absurd (omega (arith, h.ok.inside));
  }
    where
      far_n : far n F s 0 ≡ n
      far_n = feas_end (far n F s 0) (far_ok s 0 f).1

      end : Usable n F G Z 0 s n
      end = let q : Usable n F G Z 0 s (far n F s 0) = record { ok = (far_ok s 0 f).0; feas = (far_ok s 0 f).1 } in subst (Usable n F G Z 0 s) far_n q

  pub row_one : (s : ℕ) → Feas n G s 1 → Costs n F Z w 1 s (w s n)
  row_one s f = rw add-zero at (extend_costs 0 s n (λ _. 0) (λ u h. none_costs u h.feas) (one_argmin s f))

  pub reads_start : (K : ℕ) → Reads n F Z w K [] 0 K
  unfolding Reads
  reads_start K d b = b

  pub reads_more : (K : ℕ) (p : List ℕ) (k s t : ℕ) (v : ℕ → ℕ) → ((u : ℕ) → Usable n F G Z k s u → Costs n F Z w k u (v u))
      → Argmin (Usable n F G Z k s) (λ u. w s u + v u) t → Reads n F Z w K p s (suc k) → Reads n F Z w K (p ++ ((t - s) ∷ [])) t k
  unfolding Reads
  reads_more K p k s t v costs a r d b = rw append_assoc (r ((t - s) ∷ d) (extend k s t v costs a d b))

  pub reads_end : (K : ℕ) (p : List ℕ) (s : ℕ) → Feas n G s 1 → Reads n F Z w K p s 1 → BestAt n F Z w 0 K (p ++ ((n - s) ∷ []))
  unfolding Reads
  reads_end K p s f r = r ((n - s) ∷ []) (extend 0 s n (λ _. 0) (λ u h. none_costs u h.feas) (one_argmin s f) [] best_none)
