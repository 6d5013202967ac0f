-- What the pass takes and checks (document 01, "Domain and refusal numbers"): the container's numbers, the items' on
-- both axes, and the room of the lent lists. Assumes nothing.
use Rattle.std.specs.Prelude.{Bool, true, ◌&&◌, List, ◌∷◌, ◌++◌, ℕ, ◌*◌, eqb, leb, Float}
use Rattle.grid.specs.Grid.{cleaned}
use Rattle.checks.specs.Domain.{Number, float, code, Input, checked, shape, summed, then, Verdict}
use Rattle.checks.specs.Shapes.{work_room}
use Rattle.checks.specs.Optional.{optional}
use Rattle.checks.specs.declared.Kind.TheVariants.{Length}
use Rattle.flex.specs.Flex.{outer_sum}
use Rattle.flex.specs.Items.{items_of}
use Rattle.flex_checks.specs.Input.{input_of}
use Rattle.keywords.specs.declared.Mode.{Mode}
use Rattle.keywords.specs.declared.Mode.TheVariants.{Single, Greedy, Balanced}
use Rattle.place_checks.specs.Numbers.{cross_numbers, across_numbers_at}
use Rattle.pass_container.specs.declared.Container.{Container}
use Rattle.pass_container.specs.Columns.{main_lists, cross_items, align_self, auto_size}
use Rattle.pass_container.specs.Container.{cross_numbers_of}

-- ---- checks 1 and 2

-- "balanced breaking also .. cells" to work in
abbrev pub room_to_break : ℕ → Mode → ℕ → ℕ → Bool
room_to_break n Single work sums = true
room_to_break n Greedy work sums = true
room_to_break n Balanced work sums = work_room n work sums

-- of the lengths of all lists: fourteen lists of n numbers and eight of n codes; then "n cells for each answer list",
-- eight by item and two by line in lists of their own, counts, rounds and free space by line; and the cells to work in
unfoldable pub pass_room : ℕ → Mode → ℕ → ℕ → ℕ → ℕ → ℕ → ℕ → ℕ → ℕ → ℕ → Bool
pass_room n mode numbers codes placed lines counts rounds free work sums =
    eqb numbers (14 * n) && (eqb codes (8 * n) && (leb (8 * n) placed &&
    (leb (2 * n) lines && (leb n counts && (leb n rounds && (leb n free && room_to_break n mode work sums))))))

-- ---- checks 3, 4 and 5

-- besides the inner main size and the gap, which flexing takes: the limit under kind 0, the codes, and the cross axis.
-- The least number of lines is held, and never refused
abbrev pub pass_container_numbers : Container → List Number
pass_container_numbers c =
    code 2 c.limit_kind ∷ code 3 c.direction ∷ code 13 c.justify_content ∷ code 13 c.align_content ∷
    (optional (eqb c.limit_kind 0) (float Length c.limit) ++ cross_numbers (cross_numbers_of c))

-- an item's numbers are flexing's on the main axis, and then the cross axis's
abbrev pub pass_input : Container → ℕ → List Float → List ℕ → Input
pass_input c n x codes =
    let main = input_of c.inner_main c.gap_main (main_lists n x codes) in
    record {
      container = main.container ++ pass_container_numbers c;
      count = n;
      item = λ i. main.item i ++ across_numbers_at (cross_items n x codes) (align_self n codes) (auto_size n codes) i;
    }

-- ---- check 6: "hypothetical where the call flexes"

abbrev pub pass_sum : Container → ℕ → List Float → List ℕ → ℕ
pass_sum c n x codes = outer_sum (cleaned c.gap_main) (items_of (main_lists n x codes))

unfoldable pub pass_verdict : Container → ℕ → List Float → List ℕ → Bool → Verdict
pass_verdict c n x codes room = then (shape n room) (checked (pass_input c n x codes) (summed (pass_sum c n x codes)))
