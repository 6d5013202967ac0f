-- `balance::search` meets its contract: what the search divides by, and what it leaves of the two lists to work in, part by part (Cells.antt).
use Rattle.std.proofs.Common.{◌≡◌, ℕ, ◌*◌, ◌+◌, ◌++◌, List, length, drop, replicate, ap, ◌∙◌, subst, append_assoc, arith}
use Rattle.std.specs.Float.{binary64}
use Rattle.std.specs.Float.Ieee.{of_bits}
use Rattle.balance.specs.Parts.{Left}
use Rattle.balance.proofs.Cells.{left_two, left_three}
use Rattle.balance.proofs.search.Goals as goal

pub returns : goal.returns
returns c =
    let a = c.args in
    let n : ℕ = length a.breaking.sizes.now in
    let d = c.divide in
    let D = d.ensures.balanced_counts in
    let opts : d.new.opts ≡ replicate (n * n) 0 = d.ensures.cleared.0 ∙ ap (λ (k : ℕ). replicate k 0) c.split_at_mut-opts.ensures.front_len in
    let sums : d.new.sums ≡ replicate n (of_bits binary64 0) = d.ensures.cleared.1 ∙ ap (λ (k : ℕ). replicate k (of_bits binary64 0)) c.split_at_mut-sums.ensures.front_len in
    let h = d.auto.scratch in
    let fit : length d.new.scratch.0 ≡ n = omega (arith, h.0, c.split_at_mut-fit.ensures.front_len) in
    let greedy : length d.new.scratch.1.0 ≡ n = omega (arith, h.1.0, c.split_at_mut-greedy.ensures.front_len) in
    let reach : length d.new.scratch.1.1.0 ≡ n = omega (arith, h.1.1.0, c.split_at_mut-reach.ensures.front_len) in
    let prev : length d.new.scratch.1.1.1.0 ≡ n = omega (arith, h.1.1.1.0, c.split_at_mut-prev.ensures.front_len) in
    let cur : length d.new.scratch.1.1.1.1.0 ≡ n = omega (arith, h.1.1.1.1.0, c.split_at_mut-cur.ensures.front_len) in
    record {
      division = D.division;
      balanced = D.balanced;
      lines_are = D.lines;
      counts_are = ap (λ (l : List ℕ). l ++ drop n a.counts.now) D.counts_are ∙ append_assoc D.division _ (drop n a.counts.now);
      work_left = left_three 0 (n * n) n a.work.now d.new.opts d.new.scratch.0 d.new.scratch.1.0 c.split_at_mut-opts.result.1.now c.split_at_mut-fit.result.1.now c.split_at_mut-greedy.result.1.now
          opts fit greedy c.split_at_mut-opts.ensures.back c.split_at_mut-fit.ensures.back c.split_at_mut-greedy.ensures.back
          d.new.scratch.1.1.0 c.split_at_mut-reach.result.1.now reach c.split_at_mut-reach.ensures.back;
      sums_left = subst (λ (k : ℕ). Left (of_bits binary64 0) n k a.sums.now (d.new.sums ++ (d.new.scratch.1.1.1.0 ++ (d.new.scratch.1.1.1.1.0 ++ c.split_at_mut-cur.result.1.now)))) (let e : n + 2 * n ≡ 3 * n = omega arith in e)
          (left_two (of_bits binary64 0) n n a.sums.now d.new.sums d.new.scratch.1.1.1.0 d.new.scratch.1.1.1.1.0 c.split_at_mut-sums.result.1.now c.split_at_mut-prev.result.1.now c.split_at_mut-cur.result.1.now
          sums prev cur c.split_at_mut-sums.ensures.back c.split_at_mut-prev.ensures.back c.split_at_mut-cur.ensures.back);
    }
