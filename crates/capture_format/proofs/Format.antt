-- The reading is sound and complete, whatever a head is taken to mean: every capture of readable numbers is read as these numbers, and whatever is
-- read as a capture has such numbers. Document 02, Two: what a writer may produce is read as it was written, and limit kind 1 as the request says.
-- Assumes nothing.
use mathlib.Core.Path.{◌≡◌, refl, sym, ◌∙◌, ap, subst}
use mathlib.Core.List.{List, [], ◌∷◌, ◌++◌, map}
use Prim.Native.Nat.{ℕ, zero, suc, ◌+◌, ◌*◌, ◌/◌, ◌%◌, ◌<◌, ◌≤◌, ◌^◌}
use native.Mathlib.Nat.{mod-eq_of_lt}
use native.Mathlib.Omega.{arith}
use lib.ListN.{length, get_or, drop}
use lib.Ieee.{Float, binary32, of_bits}
use Rattle.keywords.specs.Space.{space_of}
use Rattle.keywords.specs.declared.AvailableSpace.TheVariants.{MaxContent}
use Rattle.capture_format.specs.Format.{kind, half_at, word, float_at, head_of, first_front, later_front}
use Rattle.capture_format.specs.Reading.{Rest, sizes, faulty, more, by_record, ending, records_from, item_records, whole, under, by_head, reading, as_written, by_space, as_read}
use Rattle.capture_format.specs.Written.{Numbers, All, Readable, Writable, bytes_of, item_bytes, capture_bytes, head_said, sizes_said}
use Rattle.capture_format.specs.declared.Head.{Head}
use Rattle.capture_format.specs.declared.Parsed.{Parsed}
use Rattle.capture_format.specs.declared.Parsed.TheVariants as parsed
use Rattle.capture_format.proofs.Front as f
use Rattle.capture_format.proofs.Items.{items_by}

-- ---- complete

-- four bytes, and two, give their number back
four : (n : ℕ) → n < 2 ^ 32 → word (bytes_of 4 n) 0 ≡ n
four n h = omega arith

two : (n : ℕ) → n < 2 ^ 16 → half_at (bytes_of 2 n) 0 ≡ n
two n h = omega arith

items_complete : (place : ℕ) (l : List ℕ) → All (λ n. n < 2 ^ 32) l → item_records place (item_bytes l ++ (3 ∷ [])) ≡ sizes (map (of_bits binary32) l)
unfolding ending
items_complete place [] fit = items_by place (3 ∷ []) ∙ (rw (f.later_end (3 ∷ []) refl))
items_complete place (n ∷ l) fit =
    let bytes = item_bytes (n ∷ l) ++ (3 ∷ []) in
    items_by place bytes
    ∙ (rw (f.later_item bytes refl (omega arith), items_complete (place + 5) l fit.1, four n fit.0))

pub complete : (meaning : Head → Head) (c : Numbers) → Readable c → reading meaning (capture_bytes c) ≡ whole (meaning (head_said c)) (sizes_said c)
unfolding reading
complete meaning c fit =
    rw (
      f.first_head (capture_bytes c) refl fit.kind_is (omega arith),
      items_complete 12 c.sizes fit.sizes_fit,
      four c.limit fit.limit-fits,
      four c.gap fit.gap_fits,
      two c.minimum fit.minimum_fits,
    )

-- ---- sound

abbrev pub Byte : ℕ → Type 0
Byte b = b < 256

-- a number with a byte below it: the byte, and the number, come back
low : (b n : ℕ) → Byte b → (b + 256 * n) % 256 ≡ b
low b n h = omega arith

high : (b n : ℕ) → Byte b → (b + 256 * n) / 256 ≡ n
high b n h = omega arith

two_back : (x y : ℕ) → Byte x → Byte y → bytes_of 2 (x + 256 * y) ≡ x ∷ (y ∷ [])
two_back x y a b = rw (low x y a, high x y a, mod-eq_of_lt b)

four_back : (x y z w : ℕ) → Byte x → Byte y → Byte z → Byte w → bytes_of 4 (x + 256 * y + 65536 * (z + 256 * w)) ≡ x ∷ (y ∷ (z ∷ (w ∷ [])))
four_back x y z w a b c d =
    let e : x + 256 * y + 65536 * (z + 256 * w) ≡ x + 256 * (y + 256 * (z + 256 * w)) = omega arith in
    ap (bytes_of 4) e
    ∙ rw (
      low x (y + 256 * (z + 256 * w)) a,
      high x (y + 256 * (z + 256 * w)) a,
      low y (z + 256 * w) b,
      high y (z + 256 * w) b,
      low z w c,
      high z w c,
      mod-eq_of_lt d,
    )

-- the records from the first item on are items, and the end
record Items (l : List ℕ) (xs : List Float) : Type 0 where
  bits : List ℕ
  fit : All (λ n. n < 2 ^ 32) bits
  written_is : l ≡ item_bytes bits ++ (3 ∷ [])
  said : map (of_bits binary32) bits ≡ xs

data Five : List ℕ → Type 0 where
  five : (a b c d e : ℕ) (l : List ℕ) → Five (a ∷ (b ∷ (c ∷ (d ∷ (e ∷ l)))))

five_of : (l : List ℕ) → 5 ≤ length l → Five l
five_of [] n = absurd (omega arith)
five_of (a ∷ []) n = absurd (omega arith)
five_of (a ∷ (b ∷ [])) n = absurd (omega arith)
five_of (a ∷ (b ∷ (c ∷ []))) n = absurd (omega arith)
five_of (a ∷ (b ∷ (c ∷ (d ∷ [])))) n = absurd (omega arith)
five_of (a ∷ (b ∷ (c ∷ (d ∷ (e ∷ l))))) n = five a b c d e l

word_fits : (x y z w : ℕ) → Byte x → Byte y → Byte z → Byte w → x + 256 * y + 65536 * (z + 256 * w) < 2 ^ 32
word_fits x y z w a b c d = omega arith

-- one item before the others
record More (t : Rest) (x : Float) (xs : List Float) : Type 0 where
  others : List Float
  rest_is : t ≡ sizes others
  all_is : x ∷ others ≡ xs

more_back : (t : Rest) (x : Float) (xs : List Float) → more x t ≡ sizes xs → More t x xs
more_back (sizes ys) x xs e = record { others = ys; rest_is = refl; all_is = cc }
more_back (faulty place) x xs e = let z : ◌≡◌ {A = ℕ} 0 1 = cc in absurd (omega arith)

item_before : {t : Rest} {xs : List Float} (l : List ℕ) → Five l → All Byte l → kind l ≡ 2 → (m : More t (float_at l 1) xs) → Items (drop 5 l) m.others → Items l xs
item_before l (five k x y z w rest) b e m i = record {
  bits = word (k ∷ (x ∷ (y ∷ (z ∷ (w ∷ rest))))) 1 ∷ i.bits;
  fit = (word_fits x y z w b.1.0 b.1.1.0 b.1.1.1.0 b.1.1.1.1.0, i.fit);
  written_is =
      let q = item_bytes i.bits ++ (3 ∷ []) in
      let front : k ∷ (x ∷ (y ∷ (z ∷ (w ∷ rest)))) ≡ 2 ∷ (x ∷ (y ∷ (z ∷ (w ∷ q)))) = cc i.written_is in
      front ∙ ap (λ (v : List ℕ). 2 ∷ (v ++ q)) (sym (four_back x y z w b.1.0 b.1.1.0 b.1.1.1.0 b.1.1.1.1.0));
  said = cc (i.said, m.all_is);
}

end_alone : (place : ℕ) (l : List ℕ) (xs : List Float) → kind l ≡ 3 → ending place (drop 1 l) ≡ sizes xs → Items l xs
unfolding ending
end_alone place [] xs k e = absurd (omega arith)
end_alone place (a ∷ []) xs k e = record { bits = []; fit = tt; written_is = cc; said = cc }
end_alone place (a ∷ (b ∷ l)) xs k e = let z : ◌≡◌ {A = ℕ} 0 1 = cc in absurd (omega arith)

drop_bytes : (n : ℕ) (l : List ℕ) → All Byte l → All Byte (drop n l)
drop_bytes zero l b = b
drop_bytes (suc n) [] b = b
drop_bytes (suc n) (x ∷ l) b = drop_bytes n l b.1

items_sound : (n place : ℕ) (l : List ℕ) (xs : List Float) → All Byte l → records_from n place l ≡ sizes xs → Items l xs
unfolding records_from
items_sound zero place l xs b e = let z : ◌≡◌ {A = ℕ} 0 1 = cc in absurd (omega arith)
items_sound (suc n) place l xs b e = go (f.later_cases l) (λ ys w. items_sound n (place + 5) (drop 5 l) ys (drop_bytes 5 l b) w)
  where
    by : (o : Parsed) → later_front l ≡ o → by_record o place (records_from n (place + 5) (drop 5 l)) (ending (place + 1) (drop 1 l)) ≡ sizes xs
    by o w = sym (ap (λ (u : Parsed). by_record u place (records_from n (place + 5) (drop 5 l)) (ending (place + 1) (drop 1 l))) w) ∙ e

    go : f.Later l → ((ys : List Float) → records_from n (place + 5) (drop 5 l) ≡ sizes ys → Items (drop 5 l) ys) → Items l xs
    go (f.Later.other h k) next = let y = by parsed.Broken (f.later_other l h k) in (let z : ◌≡◌ {A = ℕ} 0 1 = cc in absurd (omega arith))
    go (f.Later.cut k m) next = let y = by parsed.Partial (f.later_cut l k m) in (let z : ◌≡◌ {A = ℕ} 0 1 = cc in absurd (omega arith))
    go (f.Later.item k m) next =
        let t = more_back (records_from n (place + 5) (drop 5 l)) (float_at l 1) xs (by (parsed.Item (float_at l 1)) (f.later_item l k m)) in
        item_before l (five_of l m) b k t (next t.others t.rest_is)
    go (f.Later.end k) next = end_alone (place + 1) l xs k (by parsed.End (f.later_end l k))

-- the bytes of some numbers for which `May` holds, and what these say
pub record Written (May : Numbers → Type 0) (meaning : Head → Head) (l : List ℕ) (h : Head) (xs : List Float) : Type 0 where
  pub numbers : Numbers
  pub may : May numbers
  pub written_is : l ≡ capture_bytes numbers
  pub head_said_is : meaning (head_said numbers) ≡ h
  pub sizes_said_are : sizes_said numbers ≡ xs

under_back : (h g : Head) (t : Rest) (xs : List Float) → under h t ≡ whole g xs → (h ≡ g) × (t ≡ sizes xs)
under_back h g (sizes ys) xs e = (cc, cc)
under_back h g (faulty place) xs e = let z : ◌≡◌ {A = ℕ} 0 1 = cc in absurd (omega arith)

data Twelve : List ℕ → Type 0 where
  twelve : (k j a b c d e : ℕ) (l : List ℕ) → Five l → Twelve (k ∷ (j ∷ (a ∷ (b ∷ (c ∷ (d ∷ (e ∷ l)))))))

twelve_of : (l : List ℕ) → 12 ≤ length l → Twelve l
twelve_of [] n = absurd (omega arith)
twelve_of (k ∷ []) n = absurd (omega arith)
twelve_of (k ∷ (j ∷ l)) n = go l (five_of l (omega arith)) (omega arith)
  where
    go : (m : List ℕ) → Five m → 10 ≤ length m → Twelve (k ∷ (j ∷ m))
    go m (five a b c d e r) z = twelve k j a b c d e r (five_of r (omega arith))

head_before : (meaning : Head → Head) (l : List ℕ) (xs : List Float) → Twelve l → All Byte l → kind l ≡ 1 → get_or l 1 0 ≤ 2 → Items (drop 12 l) xs
    → Written Readable meaning l (meaning (head_of l)) xs
head_before meaning l xs (twelve k j a b c d e m (five f' g h' p q r)) y one kinds i = record {
  numbers = record { limit-kind = j; limit = a + 256 * b + 65536 * (c + 256 * d); gap = e + 256 * f' + 65536 * (g + 256 * h'); minimum = p + 256 * q; sizes = i.bits };
  may = record {
    kind_is = kinds;
    limit-fits = word_fits a b c d y.1.1.0 y.1.1.1.0 y.1.1.1.1.0 y.1.1.1.1.1.0;
    gap_fits = word_fits e f' g h' y.1.1.1.1.1.1.0 y.1.1.1.1.1.1.1.0 y.1.1.1.1.1.1.1.1.0 y.1.1.1.1.1.1.1.1.1.0;
    minimum_fits = omega (arith, y.1.1.1.1.1.1.1.1.1.1.0, y.1.1.1.1.1.1.1.1.1.1.1.0);
    sizes_fit = i.fit;
  };
  written_is =
      let o = item_bytes i.bits ++ (3 ∷ []) in
      let bits : k ∷ (j ∷ (a ∷ (b ∷ (c ∷ (d ∷ (e ∷ (f' ∷ (g ∷ (h' ∷ (p ∷ (q ∷ r)))))))))))
      ≡ 1 ∷ (j ∷ (a ∷ (b ∷ (c ∷ (d ∷ (e ∷ (f' ∷ (g ∷ (h' ∷ (p ∷ (q ∷ o))))))))))) = cc i.written_is in
      bits
      ∙ (ap (λ (v : List ℕ). 1 ∷ (j ∷ (v ++ (e ∷ (f' ∷ (g ∷ (h' ∷ (p ∷ (q ∷ o)))))))))
      (sym (four_back a b c d y.1.1.0 y.1.1.1.0 y.1.1.1.1.0 y.1.1.1.1.1.0))
      ∙ (ap (λ (v : List ℕ). 1 ∷ (j ∷ (bytes_of 4 (a + 256 * b + 65536 * (c + 256 * d)) ++ (v ++ (p ∷ (q ∷ o))))))
      (sym (four_back e f' g h' y.1.1.1.1.1.1.0 y.1.1.1.1.1.1.1.0 y.1.1.1.1.1.1.1.1.0 y.1.1.1.1.1.1.1.1.1.0))
      ∙ ap (λ (v : List ℕ). 1 ∷ (j ∷ (bytes_of 4 (a + 256 * b + 65536 * (c + 256 * d)) ++ (bytes_of 4 (e + 256 * f' + 65536 * (g + 256 * h')) ++ (v ++ o)))))
      (sym (two_back p q y.1.1.1.1.1.1.1.1.1.1.0 y.1.1.1.1.1.1.1.1.1.1.1.0))));
  head_said_is = refl;
  sizes_said_are = i.said;
}

pub sound : (meaning : Head → Head) (l : List ℕ) (h : Head) (xs : List Float) → All Byte l → reading meaning l ≡ whole h xs → Written Readable meaning l h xs
unfolding reading item_records
sound meaning l h xs b e = go (f.first_cases l)
  where
    by : (o : Parsed) → first_front l ≡ o → by_head meaning o (item_records 12 (drop 12 l)) ≡ whole h xs
    by o w = sym (ap (λ (u : Parsed). by_head meaning u (item_records 12 (drop 12 l))) w) ∙ e

    go : f.First l → Written Readable meaning l h xs
    go (f.First.other k) = let y = by parsed.Broken (f.first_other l k) in (let z : ◌≡◌ {A = ℕ} 0 1 = cc in absurd (omega arith))
    go (f.First.bad k m) = let y = by parsed.Broken (f.first_bad l k m) in (let z : ◌≡◌ {A = ℕ} 0 1 = cc in absurd (omega arith))
    go (f.First.cut k m n) = let y = by parsed.Partial (f.first_cut l k m n) in (let z : ◌≡◌ {A = ℕ} 0 1 = cc in absurd (omega arith))
    go (f.First.whole k m n) =
        let u = under_back (meaning (head_of l)) h (item_records 12 (drop 12 l)) xs (by (parsed.Head (head_of l)) (f.first_head l k m n)) in
        let i = items_sound (length (drop 12 l)) 12 (drop 12 l) xs (drop_bytes 12 l b) u.1 in
        subst (λ (g : Head). Written Readable meaning l g xs) u.0 (head_before meaning l xs (twelve_of l n) b k m i)

-- ---- what a writer may produce

-- under any kind but 1 a head is read as it was written
says_itself : (kind : ℕ) (limit : Float) (head : Head) → (kind ≡ 1 → ⊥) → by_space (space_of kind limit) head ≡ head
says_itself zero limit head not_min = refl
says_itself (suc zero) limit head not_min = absurd (not_min refl)
says_itself (suc (suc kind)) limit head not_min = refl

pub never_min : (c : Numbers) → Writable c → get_or (capture_bytes c) 1 0 ≡ 1 → ⊥
never_min c w = w.not_min

pub written_complete : (c : Numbers) → Writable c → reading as_read (capture_bytes c) ≡ whole (head_said c) (sizes_said c)
written_complete c w =
    complete as_read c w.readable
    ∙ ap (λ (h : Head). whole h (sizes_said c)) (says_itself c.limit-kind (of_bits binary32 c.limit) (head_said c) w.not_min)

-- a capture that is read, and is not of limit kind 1, is one that a writer may produce
pub written_sound : (l : List ℕ) (h : Head) (xs : List Float) → All Byte l → (get_or l 1 0 ≡ 1 → ⊥) → reading as_read l ≡ whole h xs
    → Written Writable as_written l h xs
written_sound l h xs b not_min e =
    let w = sound as_read l h xs b e in
    let c = w.numbers in
    let other : c.limit-kind ≡ 1 → ⊥ = λ one. not_min (ap (λ (m : List ℕ). get_or m 1 0) w.written_is ∙ one) in
    record {
      numbers = c;
      may = record { readable = w.may; not_min = other };
      written_is = w.written_is;
      head_said_is = sym (says_itself c.limit-kind (of_bits binary32 c.limit) (head_said c) other) ∙ w.head_said_is;
      sizes_said_are = w.sizes_said_are;
    }

-- ---- what is read and no more written

-- limit kind 1: the record's own limit and minimum are not read
pub old_read : (c : Numbers) → Readable c → c.limit-kind ≡ 1
    → reading as_read (capture_bytes c) ≡ whole (record { limit = MaxContent; gap = of_bits binary32 c.gap; minimum = 65535 }) (sizes_said c)
old_read c fit one =
    complete as_read c fit
    ∙ ap (λ (kind : ℕ). whole (by_space (space_of kind (of_bits binary32 c.limit)) (head_said c)) (sizes_said c)) one
