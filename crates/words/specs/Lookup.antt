-- Looking a word up by lent tables: the entry of its row, the limits of the entry's check, and the parts that an action reads. This is how code goes about
-- a step, not what a reader must believe: proofs/Lookup.antt ties each of these to Rows, Words and Facts.
use Rattle.std.specs.Prelude.{ℕ, ◌+◌, ◌/◌, ◌%◌, ◌<◌, Bool, ◌&&◌, ◌≡◌, List, T, eqb, ltb, get_or}
use Rattle.laws.specs.Choice.{pick}
use Rattle.laws.specs.Test.{test, imp}
use Rattle.laws.specs.Table.{values}
use Rattle.words.specs.declared.Config.{Config}
use Rattle.words.specs.declared.Instruction.{Instruction}
use Rattle.words.specs.Parts.{Part, unused, count, never, is, available}
use Rattle.words.specs.Kinds.{Kind, unsupported}
use Rattle.words.specs.Classes.{class_of, row_of}
use Rattle.words.specs.Codes.{form_at, condition_at}
use Rattle.words.specs.Packed.{limit_of}
use Rattle.words.specs.Actions.{flag', destination', source', number', value', target', unit', Action, action, actions, Check, check, checks, entries}

-- Entries

unfoldable pub entry_at : ℕ → ℕ
entry_at n = get_or entries n 0

unfoldable pub entry_table : List ℕ
entry_table = values entry_at 0 256

-- the entry of word w
unfoldable pub entry_of : ℕ → ℕ
entry_of w = entry_at (row_of (class_of (w / 0x800000)) (w % 0x800000))

unfoldable pub action_at : ℕ → Action
action_at a = get_or actions a (action (λ f c. unsupported) 0)

-- the kind of action a where entry e has the form of its immediate, or its condition
abbrev pub action_kind : ℕ → ℕ → Kind
action_kind a e = (action_at a).does (form_at (e / 4096 % 4)) (condition_at (e / 256 % 16))

-- the kind of an entry
abbrev pub entry_kind : ℕ → Kind
entry_kind e = action_kind (e / 0x4000000) e

-- Limits

unfoldable pub check_at : ℕ → Check
check_at t = get_or checks t (check 0 unused unused never 0)

-- what a part stays below; at level 0 a shift count is left to the exact verdict
unfoldable pub limit_in : Config → Part → ℕ
limit_in c p = pick (is p count && eqb c.alulevel 0) 0 (limit_of c p)

-- what bits 22-16 of a word stay below by check k: 0, so that no word passes, where its option is off, or a byte number is left to the exact verdict
unfoldable pub upper_limit : Config → Check → ℕ
upper_limit c k =
    pick (test (available c k.option) && imp (eqb k.numbered 1) (eqb c.regwidth 32)) (k.code / 65536 + limit_in c k.upper) 0

-- what bits 15-0 stay below
unfoldable pub lower_limit : Config → Check → ℕ
lower_limit c k = k.code % 65536 + limit_in c k.lower

-- whether word w is below the two limits of check t
unfoldable pub within_limits : Config → ℕ → ℕ → Bool
within_limits c t w = ltb (w / 65536 % 128) (upper_limit c (check_at t)) && ltb (w % 65536) (lower_limit c (check_at t))

unfoldable pub uppers : Config → List ℕ
uppers c = values (λ t. upper_limit c (check_at t)) 0 64

unfoldable pub lowers : Config → List ℕ
lowers c = values (λ t. lower_limit c (check_at t)) 0 64

-- word w passes the check of its entry; then it can be read
pub record Quick (c : Config) (w : ℕ) : Type 0 where
  pub upper : w / 65536 % 128 < upper_limit c (check_at (entry_of w % 64))
  pub lower : w % 65536 < lower_limit c (check_at (entry_of w % 64))

-- whether word w, of row n, passes the check of its entry by lent tables
unfoldable pub below_lent : List ℕ → List ℕ → List ℕ → ℕ → ℕ → Bool
below_lent entry-list upper-list lower-list n w =
    let t = get_or entry-list n 0 % 64 in
    ltb (w / 65536 % 128) (get_or upper-list t 0) && ltb (w % 65536) (get_or lower-list t 0)

-- the entries and limits that are lent are these
pub record Limits (c : Config) (entry-list upper-list lower-list : List ℕ) : Type 0 where
  pub entries_right : entry-list ≡ entry_table
  pub uppers_right : upper-list ≡ uppers c
  pub lowers_right : lower-list ≡ lowers c

-- Parts

-- whether action a reads the part of mark m
abbrev pub reads : ℕ → ℕ → Type 0
reads m a = T (eqb ((action_at a).uses / m % 2) 1)

-- instruction i has the parts of word w that action a reads, its registers below `size`
pub record Agrees (size a w : ℕ) (i : Instruction) : Type 0 where
  pub flag : reads flag' a → i.flag ≡ w / 0x4000000 % 2
  pub destination : reads destination' a → (i.destination ≡ w / 65536 % 128) × (i.destination < size)
  pub source : reads source' a → (i.source ≡ w % 128) × (i.source < size)
  pub number : reads number' a → i.number ≡ w / 0x800000 % 4
  pub value : reads value' a → i.value ≡ w % 65536
  pub target : reads target' a → i.value ≡ w % 0x800000
  pub unit : reads unit' a → i.destination ≡ w / 65536 % 128
