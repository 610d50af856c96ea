-- Computed tests over the rows: an entry says what its row says, its check has the row's limits, and its action reads what the row holds.
-- Assumes nothing.
use Prim.Native.Nat.{ℕ, ◌/◌, ◌%◌, ◌<◌}
use mathlib.Core.Path.{◌≡◌, refl, ap, sym, ◌∙◌}
use mathlib.Core.Bool.{Bool, true, false, not, ◌&&◌}
use lib.Dec.{T, eqb, not_T}
use lib.ListN.{get_or}
use Rattle.laws.specs.Choice.{pick, pick_no, decided_yes}
use Rattle.laws.specs.Lists.{column, column_at}
use Rattle.laws.specs.Test.{Test, less, same, yes?, if?, ◌and◌, ◌or◌, test, Holds, holds, imp}
use Rattle.laws.specs.Table.{every, at_every}
use Rattle.words.specs.declared.Config.{Config}
use Rattle.words.specs.Parts.{Part, Part-discrete, unused, flag, byte, register, is}
use Rattle.words.specs.Parts.{Option, Option-discrete, never, needs}
use Rattle.words.specs.Kinds.{Kind, unsupported}
use Rattle.words.specs.Rows.{Row, rows, no_row, row_count, row_at}
use Rattle.words.specs.Codes.{form_at, condition_at}
use Rattle.words.specs.Words.{Layout, registers, upper_value, whole, layout_of, upper_in, lower_in, value_in}
use Rattle.words.specs.Actions.{flag', destination', source', number', value', target', unit', actions, Check, checks, entries}
use Rattle.words.specs.Lookup.{entry_at, action_at, entry_kind, check_at}
use Rattle.words.proofs.Keys.{key, code}

-- Entries

-- two answers are one
abbrev pub alike : Bool → Bool → Bool
alike a b = imp a b && imp b a

pub alike_is : (a b : Bool) → T (alike a b) → a ≡ b
alike_is true true t = refl
alike_is true false t = absurd t
alike_is false true t = absurd t
alike_is false false t = refl

-- what is equal by its test

pub is_it : (p q : Part) → T (is p q) → p ≡ q
is_it p q t = decided_yes (Part-discrete p q) t

pub needs_it : (o q : Option) → T (needs o q) → o ≡ q
needs_it o q t = decided_yes (Option-discrete o q) t

pub isnt_it : (o q : Option) → (o ≡ q → ⊥) → T (not (needs o q))
isnt_it o q h = not_T (needs o q) (λ t. h (needs_it o q t))

-- the kind of a row that some configuration has
abbrev supported : Row → Kind
supported r = pick (needs r.option never) unsupported r.kind

all_kinds : column entry_kind entries ≡ column supported rows
unfolding pick rows entries actions action_at form_at condition_at
all_kinds = refl

-- it is that of its entry
entry_supported : (n : ℕ) → entry_kind (entry_at n) ≡ supported (row_at n)
unfolding pick row_at entry_at actions action_at
entry_supported n =
    sym (column_at entry_kind entries n 0) ∙ (ap (λ l. get_or l n unsupported) all_kinds ∙ column_at supported rows n no_row)

pub entry_kind_lem : (n : ℕ) → ((row_at n).option ≡ never → ⊥) → entry_kind (entry_at n) ≡ (row_at n).kind
entry_kind_lem n o =
    entry_supported n ∙ pick_no (needs (row_at n).option never) unsupported (row_at n).kind (λ t. o (needs_it _ _ t))

-- Checks

-- the check's limits are those of the parts that stand in bits 22-16 and 15-0
abbrev pub sides_like : Layout → Row → Check → Test
sides_like registers r k =
    yes? (is k.upper r.destination) and yes? (is k.lower r.source) and yes? (is r.value unused)
sides_like upper_value r k =
    yes? (is k.upper r.destination) and yes? (is k.lower r.value) and yes? (is r.source unused)
sides_like whole r k =
    yes? (is k.upper unused) and
    yes? (is k.lower r.value) and
    yes? (is r.source unused) and
    yes? (is r.destination unused)

abbrev pub check_like : Config → Row → Check → Test
check_like c r k =
    same k.code (code r) and
    (yes? (is r.flag unused) or yes? (is r.flag flag)) and
    (yes? (is r.number unused) or yes? (is r.number byte) and same k.numbered 1) and
    sides_like (layout_of c r.value) r k

abbrev pub check_right : Config → ℕ → Test
check_right c n =
    let r = row_at n in
    let k = check_at (entry_at n % 64) in
    yes? (needs k.option r.option) and if? (not (needs r.option never)) (check_like c r k)

all_checks : (c : Config) → T (every row_count (λ n. test (check_right c n)))
unfolding pick rows row_at layout_of entries entry_at checks check_at
all_checks c = tt

pub check_at_lem : (c : Config) (n : ℕ) → n < row_count → Holds (check_right c n)
check_at_lem c n h = holds (check_right c n) (at_every row_count (λ m. test (check_right c m)) n (all_checks c) h)

-- Parts

-- where a layout's parts come from
abbrev pub has_upper : Layout → Bool
has_upper registers = true
has_upper upper_value = true
has_upper whole = false

abbrev pub has_lower : Layout → Bool
has_lower registers = true
has_lower upper_value = false
has_lower whole = false

abbrev pub has_value : Layout → Bool
has_value registers = false
has_value upper_value = true
has_value whole = false

abbrev pub is_whole : Layout → Bool
is_whole registers = false
is_whole upper_value = false
is_whole whole = true

pub upper_at : (y : Layout) (f : ℕ) → T (has_upper y) → upper_in y f ≡ f / 65536
unfolding upper_in
upper_at registers f t = refl
upper_at upper_value f t = refl
upper_at whole f t = absurd t

pub lower_at : (y : Layout) (f : ℕ) → T (has_lower y) → lower_in y f ≡ f % 65536
unfolding lower_in
lower_at registers f t = refl
lower_at upper_value f t = absurd t
lower_at whole f t = absurd t

pub value_at : (y : Layout) (f : ℕ) → T (has_value y) → value_in y f ≡ f % 65536
unfolding value_in
value_at registers f t = absurd t
value_at upper_value f t = refl
value_at whole f t = absurd t

pub whole_at : (y : Layout) (f : ℕ) → T (is_whole y) → value_in y f ≡ f
unfolding value_in
whole_at registers f t = absurd t
whole_at upper_value f t = absurd t
whole_at whole f t = refl

-- the row holds what an action of marks u reads, clear of the row's code
abbrev pub used : ℕ → ℕ → Bool
used m u = eqb (u / m % 2) 1

abbrev pub uses_like : Config → Row → ℕ → Test
uses_like c r u =
    let y = layout_of c r.value in
    if? (used flag' u) (yes? (is r.flag flag)) and
    if? (used destination' u) (yes? (is r.destination register) and yes? (has_upper y) and less (code r) 65536) and
    if? (used source' u) (yes? (is r.source register) and yes? (has_lower y) and same (code r % 256) 0) and
    if? (used number' u) (yes? (is r.number byte) and same (key r % 4) 0) and
    if? (used value' u) (yes? (has_value y) and same (code r % 65536) 0) and
    if? (used target' u) (yes? (is_whole y) and same (code r) 0) and
    if? (used unit' u) (yes? (has_upper y) and less (code r) 65536)

abbrev uses_right : Config → ℕ → Test
uses_right c n =
    if? (not (needs (row_at n).option never)) (uses_like c (row_at n) (action_at (entry_at n / 0x4000000)).uses)

all_uses : (c : Config) → T (every row_count (λ n. test (uses_right c n)))
unfolding pick rows row_at layout_of entries entry_at actions action_at
all_uses c = tt

pub uses_at : (c : Config) (n : ℕ) → n < row_count → ((row_at n).option ≡ never → ⊥) → Holds (uses_like c (row_at n) (action_at (entry_at n / 0x4000000)).uses)
uses_at c n h o =
    holds (uses_right c n) (at_every row_count (λ m. test (uses_right c m)) n (all_uses c) h)
    (isnt_it (row_at n).option never o)
