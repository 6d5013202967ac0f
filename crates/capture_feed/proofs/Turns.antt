-- The loop of `feed`: what is still to come of the burst takes the reader to where the whole burst takes it. Assumes nothing.
use mathlib.Core.Path.{◌≡◌, refl, sym, ◌∙◌, ap, subst}
use mathlib.Core.List.{List}
use Prim.Native.Nat.{ℕ, ◌+◌, ◌-◌, ◌<◌, ◌≤◌}
use native.Mathlib.Omega.{arith}
use native.Mathlib.Numerals.{add-one}
use lib.ListN.{length, drop, get_or}
use lib.Seq.{drop-cons, drop-length}
use lib.Ieee.{Float}
use Rattle.capture_feed.specs.Machine.{Fed, with_sizes, byte_fed, fed, ReaderReady}
use Rattle.capture_feed.specs.declared.Reader.{Reader}
use Rattle.capture_feed.proofs.Sound.{step_ready, ready_less}

pub record Turn (burst : List ℕ) (whole : Fed) (sizes : List Float) (r : Reader) (i : ℕ) : Type 0 where
  pub within : i ≤ length burst
  pub ready : ReaderReady r (length burst - i)
  pub to_come : fed (with_sizes r sizes) (drop i burst) ≡ whole

pub begin : (burst : List ℕ) (sizes : List Float) (r : Reader) → ReaderReady r (length burst) → Turn burst (fed (with_sizes r sizes) burst) sizes r 0
begin burst sizes r ready =
    record { within = omega arith; ready = ready_less (length burst - 0) (length burst) (omega arith) ready; to_come = refl }

pub can_step : {burst : List ℕ} {whole : Fed} {sizes : List Float} {r : Reader} {i : ℕ} → Turn burst whole sizes r i → i < length burst → ReaderReady r 1
can_step {burst} {i = i} t h = ready_less 1 (length burst - i) (omega arith) t.ready

pub turn : {burst : List ℕ} {whole : Fed} {sizes : List Float} {r : Reader} {i : ℕ} (sizes' : List Float) (r' : Reader)
    → Turn burst whole sizes r i → i < length burst → with_sizes r' sizes' ≡ byte_fed (with_sizes r sizes) (get_or burst i 0) → Turn burst whole sizes' r' (i + 1)
unfolding fed
turn {burst} {whole} {sizes} {r} {i} sizes' r' t h e = record {
  within = omega arith;
  ready =
      subst (λ (f : Fed). ReaderReady f.reader (length burst - (i + 1))) (sym e)
      (step_ready (with_sizes r sizes) (get_or burst i 0) (length burst - (i + 1))
      (ready_less (length burst - (i + 1) + 1) (length burst - i) (omega arith) t.ready));
  to_come =
      ap (λ (f : Fed). fed f (drop (i + 1) burst)) e
      ∙ (ap (λ (k : ℕ). fed (byte_fed (with_sizes r sizes) (get_or burst i 0)) (drop k burst)) (add-one i)
      ∙ (ap (λ (l : List ℕ). fed (with_sizes r sizes) l) (sym (drop-cons burst i 0 h)) ∙ t.to_come));
}

pub done : {burst : List ℕ} {whole : Fed} {sizes : List Float} {r : Reader} {i : ℕ} → Turn burst whole sizes r i → length burst ≤ i → with_sizes r sizes ≡ whole
unfolding fed
done {burst} {whole} {sizes} {r} {i} t h =
    let e : i ≡ length burst = omega (arith, t.within) in
    ap (λ (l : List ℕ). fed (with_sizes r sizes) l) (sym (ap (λ (k : ℕ). drop k burst) e ∙ drop-length burst)) ∙ t.to_come
