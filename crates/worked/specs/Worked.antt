-- WORKED EXAMPLES beside P1 to P15, each where a slip that comes easily gives another answer: the rule's words, the
-- case, and the answer as it was worked out by hand; lengths in whole px. `worked_holds` of proofs/Worked.antt computes
-- them from the definitions that the contracts cite. Auto margins across a line are worked in
-- crates/place_cross/specs/Worked.antt. Assumes nothing.
use Rattle.std.specs.Prelude.{◌≡◌, Bool, true, false, List, [], ◌∷◌, map, ℕ, length, pos, neg_ℤ, Float}
use Rattle.std.specs.Float.{binary32}
use Rattle.std.specs.Float.Ieee.{of_int, of_bits}
use Rattle.keywords.specs.declared.AvailableSpace.{AvailableSpace}
use Rattle.keywords.specs.declared.AvailableSpace.TheVariants.{Definite, MinContent, MaxContent}
use Rattle.std.specs.Prelude.{Some, None, Ok, Err}
use Rattle.keywords.specs.declared.Wrap.{Wrap}
use Rattle.keywords.specs.declared.Wrap.TheVariants as wrap
use Rattle.keywords.specs.declared.Mode.TheVariants as mode
use Rattle.keywords.specs.declared.Position.TheVariants.{Start, End, FlexStart, FlexEnd, Center}
use Rattle.keywords.specs.declared.Distribution.TheVariants.{Stretch, SpaceBetween, SpaceAround, SpaceEvenly}
use Rattle.keywords.specs.declared.ContentAlignment.TheVariants.{Unsafe, Safe, Spread}
use Rattle.keywords.specs.declared.SelfAlignment.TheVariants as self
use Rattle.keywords.specs.Space.{space_of, Bound}
use Rattle.keywords.specs.Wrapping.{wrap_of, mode_of}
use Rattle.keywords.specs.Alignment.{content_of, self_of}
use Rattle.checks.specs.declared.Place.TheVariants.{Container}
use Rattle.checks.specs.declared.Refusal.TheVariants.{OutOfRange}
use Rattle.checks.specs.Domain.{done}
use Rattle.break_limit.specs.declared.Query.{Query}
use Rattle.break_limit.specs.Limit.{limit_call}
use Rattle.flex.specs.declared.Item.{Item}
use Rattle.flex.specs.Flex.{Flexed}
use Rattle.place_main.specs.MainAxis.{LineLists}
use Rattle.place_main.specs.MainCall.{MainResult, main_result, main_call}
use Rattle.place_size.specs.declared.container.Cross.{Cross}
use Rattle.place_size.specs.declared.cross_size.CrossItem.{CrossItem}
use Rattle.place_size.specs.CrossSize.{cross_clamp, line_cross_size}
use Rattle.place_cross.specs.declared.cross_axis.CrossPlace.{CrossPlace}
use Rattle.place_cross.specs.CrossAxis.{placed_item}
use Rattle.examples.specs.Table.{whole_px, px, none, flexible, table}

-- ---- numbers: -n px, -0.0 and 0.25, the latter two by their bits

unfoldable pub minus : ℕ → Float
minus n = of_int binary32 (neg_ℤ (pos n))

unfoldable pub minus_zero : Float
minus_zero = of_bits binary32 2147483648

unfoldable pub quarter : Float
quarter = of_bits binary32 1048576000

-- ---- inputs

-- a known main size; whether the container has a definite one of its own, whether it is a row; space, minimum, maximum
abbrev pub known : Bool → Bool → AvailableSpace → Bound → Bound → Query
known definite row available minimum maximum = record {
  known_is_definite = true;
  main_is_definite = definite;
  is_row = row;
  available = available;
  minimum = minimum;
  maximum = maximum;
}

-- a container across: inner size, a minimum of 80 and a maximum of 60, wrap mode
abbrev pub across : Bound → Wrap → Cross
across inner mode =
    record { inner = inner; minimum = Some (px 80); maximum = Some (px 60); gap = px 0; wrap = mode }

-- an item across its line: measured size, minimum, maximum, padding plus border, and a margin on either side
abbrev pub item : ℕ → ℕ → ℕ → ℕ → ℕ → CrossItem
item measured minimum maximum edges margin = record {
  measured = px measured;
  minimum = px minimum;
  maximum = px maximum;
  capped = true;
  edges = px edges;
  start = px margin;
  end = px margin;
  auto_start = false;
  auto_end = false;
}

-- one of 30, within its bounds and with no margins
abbrev pub thirty : CrossItem
thirty = item 30 0 90 0 0

-- where it comes to lie: size, offset, and its margins
abbrev pub lies : ℕ → Float → ℕ → CrossPlace
lies size offset margin = record { size = px size; start = px margin; end = px margin; offset = offset }

-- two items of 20 along a line with a gap of 10, which take 50: the start margin of the first and the end margin of the
-- second are auto, the numbers beside them 9
abbrev pub two_items : LineLists
two_items = record {
  targets = px 20 ∷ px 20 ∷ [];
  start = px 9 ∷ px 0 ∷ [];
  end = px 0 ∷ px 9 ∷ [];
  auto_start = 1 ∷ 0 ∷ [];
  auto_end = 0 ∷ 1 ∷ [];
}

-- the call for them, in an inner size, by the codes of `justify-content` and of a reversed direction; it is lent three
-- cells of 7 for each list
abbrev pub sevens : List Float
sevens = px 7 ∷ px 7 ∷ px 7 ∷ []

abbrev pub along : ℕ → ℕ → ℕ → MainResult
along inner justify reversed = main_call (px inner) (px 10) justify reversed two_items sevens sevens sevens

-- what it leaves: the offsets, and what each of the two auto margins takes
abbrev pub leaves : Float → Float → ℕ → MainResult
leaves first second auto = main_result (done 0 0) (first ∷ second ∷ px 7 ∷ []) (px auto ∷ px 0 ∷ px 7 ∷ [])
    (px 0 ∷ px auto ∷ px 7 ∷ [])

-- two items of 100 with these factors, to grow and to shrink
abbrev pub hundreds : Float → Float → List Item
hundreds first second = flexible (px 100) none first first ∷ flexible (px 100) none second second ∷ []

-- ---- the cases

pub record Worked : Type 0 where
  -- the rows of the table beside which these stand are all there: fifteen cases, the greedy counts of three of them,
  -- and the slip that is none of them
  pub table_counted : length table ≡ 19
  -- "lower it to the maximum; raise it to the minimum if given": 300 to 100, and then to 200, above the maximum
  pub minimum_above_maximum :
      limit_call (known false true (Definite (px 300)) (Some (px 200)) (Some (px 100))) ≡ Ok (Definite (px 200))
  -- "if the container has no definite main size, lower it": it has one, so 300 stays above the maximum of 100
  pub not_lowered :
      limit_call (known true true (Definite (px 300)) None (Some (px 100))) ≡ Ok (Definite (px 300))
  -- "or the maximum where there is none; .. the result is definite": min-content with a maximum of 100
  pub maximum_for_min_content :
      limit_call (known false true MinContent None (Some (px 100))) ≡ Ok (Definite (px 100))
  -- "With no maximum, .. all else passes unchanged": a row of 300 with a minimum of 400 keeps 300
  pub minimum_alone :
      limit_call (known false true (Definite (px 300)) (Some (px 400)) None) ≡ Ok (Definite (px 300))
  -- "a column without a definite main size turns a definite space into max-content"
  pub column : limit_call (known false false (Definite (px 300)) None None) ≡ Ok MaxContent
  -- "-0.0 reads as 0, and an answer that would be -0.0 is 0.0"
  pub zero_limit : limit_call (known false true (Definite minus_zero) None None) ≡ Ok (Definite (px 0))
  -- "add to each base free × (factor ÷ sum)", where "factors sum below 1, initial times that sum replaces it": 300 less
  -- 200 and one gap of 20 leave 80, of which a factor of 0.25 takes 20. (The Rust takes the gap off once more, before
  -- it scales: 0.)
  pub grows_by_a_quarter :
      Flexed (px 300) (px 20) (hundreds quarter (px 0)) (whole_px 80) 1 [] (px 120 ∷ px 100 ∷ [])
  -- ".. where smaller in magnitude": 140 less 200 and 20 are -80; -20 is the larger number and the smaller magnitude
  pub shrinks_by_a_quarter :
      Flexed (px 140) (px 20) (hundreds quarter (px 0)) (neg_ℤ (whole_px 80)) 1 [] (px 80 ∷ px 100 ∷ [])
  -- "Above 0.0 with auto margins, each such margin gets free ÷ their number and `justify-content` sees 0.0": of 100, 50
  -- are free and each margin takes 25; `end` (code 1) moves nothing; the third cells are not the call's
  pub auto_margins_take_all : along 100 1 0 ≡ leaves (px 0) (px 10) 25
  -- "otherwise they are 0": of 30, -20 are free; `center` (code 4) halves them
  pub auto_margins_overfull : along 30 4 0 ≡ leaves (minus 10) (px 10) 0
  -- "safe with free ≤ 0 means start": `safe center` (code 9)
  pub safe_overfull : along 30 9 0 ≡ leaves (px 0) (px 10) 0
  -- "from the last item if reversed"; "flex-start 0, or free if reversed" (code 2): the second item comes first, at -20
  pub reversed_overfull : along 30 2 1 ≡ leaves (px 10) (minus 20) 0
  -- "a single number is out of range", 5: no keyword has the code 14; the cells are as they were
  pub unknown_code : along 100 14 0 ≡ main_result (Err (OutOfRange Container)) sevens sevens sevens
  -- "lowered to the maximum, raised to the minimum, then to padding plus border": 50 to 20, to 30, and 25 is below that
  pub minimum_wins : cross_clamp (item 50 30 20 25 0) (px 50) ≡ px 30
  -- the same with a padding plus border of 40, above maximum and minimum
  pub padding_wins : cross_clamp (item 50 30 20 40 0) (px 50) ≡ px 40
  -- "a given inner size, single-line or not, is clamped so first": 100 to the maximum, 60, and to the minimum, 80, the
  -- line's size whatever its items have
  pub given_clamped : line_cross_size (across (Some (px 100)) wrap.NoWrap) (px 20) ≡ px 80
  -- "clamped by the container's inner cross bounds if single-line": items of 120 in a container of no given size
  pub single_line_clamped : line_cross_size (across None wrap.NoWrap) (px 120) ≡ px 80
  -- .. and a container that wraps leaves its lines as large as their items
  pub wrapping_not_clamped : line_cross_size (across (Some (px 100)) wrap.Wrap) (px 120) ≡ px 120
  -- "placed at 0, free or free/2 by its alignment": an item of 30 on a line of 20, where -10 are free, at its `center`
  pub center_overflows : placed_item (px 20) false thirty (self.Unsafe Center) true ≡ lies 30 (minus 5) 0
  -- "reversed wrapping exchanges flex-start and flex-end": `flex-start` there
  pub flex_start_exchanged : placed_item (px 20) true thirty (self.Unsafe FlexStart) true ≡ lies 30 (minus 10) 0
  -- "safe with negative free is start", and not flex-start: `safe flex-start` there
  pub safe_is_start : placed_item (px 20) true thirty (self.Safe FlexStart) true ≡ lies 30 (px 0) 0
  -- "take the line less margins, clamped": 50 less 5 and 5, held to a maximum of 30; 10 are free, and "stretch as
  -- flex-start" lies behind them where wrapping is reversed
  pub stretched_to_maximum : placed_item (px 50) true (item 20 0 30 0 5) self.Stretch true ≡ lies 30 (px 10) 5
  -- "Stretched items with auto size": one of a given size of 20 keeps it
  pub given_size_kept : placed_item (px 50) false (item 20 0 30 0 5) self.Stretch false ≡ lies 20 (px 0) 5
  -- the codes of the C header, and of keywords one past the last, which the checks refuse wherever a code is taken
  pub limit_kinds :
      map (λ c. space_of c (px 5)) (0 ∷ 1 ∷ 2 ∷ 3 ∷ []) ≡ Definite (px 5) ∷ MinContent ∷ MaxContent ∷ MaxContent ∷ []
  pub wrap_modes :
      map wrap_of (0 ∷ 1 ∷ 2 ∷ 3 ∷ 4 ∷ 5 ∷ []) ≡ wrap.NoWrap ∷ wrap.Wrap ∷ wrap.WrapReverse ∷ wrap.Balance
      ∷ wrap.BalanceReverse ∷ wrap.NoWrap ∷ []
  pub modes : map (λ c. mode_of (wrap_of c)) (0 ∷ 1 ∷ 2 ∷ 3 ∷ 4 ∷ []) ≡ mode.Single ∷ mode.Greedy ∷ mode.Greedy
      ∷ mode.Balanced ∷ mode.Balanced ∷ []
  pub content_keywords :
      map content_of (0 ∷ 1 ∷ 2 ∷ 3 ∷ 4 ∷ 5 ∷ 6 ∷ 7 ∷ 8 ∷ 9 ∷ 10 ∷ 11 ∷ 12 ∷ 13 ∷ 14 ∷ [])
      ≡ Unsafe Start ∷ Unsafe End ∷ Unsafe FlexStart ∷ Unsafe FlexEnd ∷ Unsafe Center ∷ Safe Start ∷ Safe End
      ∷ Safe FlexStart ∷ Safe FlexEnd ∷ Safe Center ∷ Spread Stretch ∷ Spread SpaceBetween ∷ Spread SpaceAround
      ∷ Spread SpaceEvenly ∷ Spread SpaceEvenly ∷ []
  pub self_keywords :
      map self_of (0 ∷ 1 ∷ 2 ∷ 3 ∷ 4 ∷ 5 ∷ 6 ∷ 7 ∷ 8 ∷ 9 ∷ 10 ∷ 11 ∷ []) ≡ self.Unsafe Start ∷ self.Unsafe End
      ∷ self.Unsafe FlexStart ∷ self.Unsafe FlexEnd ∷ self.Unsafe Center ∷ self.Safe Start ∷ self.Safe End
      ∷ self.Safe FlexStart ∷ self.Safe FlexEnd ∷ self.Safe Center ∷ self.Stretch ∷ self.Stretch ∷ []
