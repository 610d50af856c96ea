-- The generics that the entries of a CONFIG name: docs/commands.md, 'yam pack' and 'yam config'.
use Rattle.std.specs.Prelude.{ℕ, suc, Bool, true, false, not, ◌&&◌, List, [], ◌∷◌, Option, Some, None, Result, Ok, Err, ltb, get_or, set, replicate}
use Prim.Native.String.{String}
use Rattle.laws.specs.Choice.{pick}
use Rattle.laws.specs.Lists.{column}
use Rattle.syntax.specs.Quoted.{quoted}
use Rattle.syntax.specs.Pieces.{equal}
use Rattle.words.specs.declared.Config.{Config}
use Rattle.parsing.specs.declared.BadEntry.{BadEntry}
use Rattle.parsing.specs.Decimals.{value_of}
use Rattle.parsing.specs.Entries.{entries_of, name_in, value_in}

-- a generic's name, and "the manual's default (2.2)"
pub record Generic : Type 0 where
  pub name : List ℕ
  pub default : ℕ

abbrev generic : String → ℕ → Generic
generic s n = record { name = quoted s; default = n }

-- in the order of 'yam config'
unfoldable pub generics : List Generic
generics =
    generic "IM_SIZE" 2048 ∷
    generic "REG_WIDTH" 32 ∷
    generic "REG_SIZE" 32 ∷
    generic "RM_SIZE" 32 ∷
    generic "PC_STACK" 16 ∷
    generic "DM_SIZE" 32 ∷
    generic "DM_PIPE" 0 ∷
    generic "ALU_LEVEL" 0 ∷
    generic "ALU_MULT" 0 ∷
    generic "ALU_SPR" 0 ∷
    generic "IOP_IF" 0 ∷
    generic "IOP_RMW" 0 ∷
    generic "YAM_CLK" 0 ∷
    generic "YAM_SREG3" 0 ∷
    generic "ALU_3OP" 0 ∷
    generic "IRQ_IF" 0 ∷
    generic "COPM_SIZE" 0 ∷
    generic "IM_WIDTH" 32 ∷
    generic "YAM_DBG" 0 ∷
    []

abbrev pub generic_count : ℕ
generic_count = 19

unfoldable pub names : List (List ℕ)
names = column (λ g. g.name) generics

unfoldable pub defaults : List ℕ
defaults = column (λ g. g.default) generics

-- the configuration of so many values in that order
abbrev pub config_of : List ℕ → Config
config_of vs = record {
  imsize = get_or vs 0 0;
  regwidth = get_or vs 1 0;
  regsize = get_or vs 2 0;
  rmsize = get_or vs 3 0;
  pcstack = get_or vs 4 0;
  dmsize = get_or vs 5 0;
  dmpipe = get_or vs 6 0;
  alulevel = get_or vs 7 0;
  alumult = get_or vs 8 0;
  aluspr = get_or vs 9 0;
  iopif = get_or vs 10 0;
  ioprmw = get_or vs 11 0;
  yamclk = get_or vs 12 0;
  yamsreg3 = get_or vs 13 0;
  alu3op = get_or vs 14 0;
  irqif = get_or vs 15 0;
  copmsize = get_or vs 16 0;
  imwidth = get_or vs 17 0;
  yamdbg = get_or vs 18 0;
}

-- the place of a name in a list of names; past the list where it is none of them
unfoldable pub place_of : List (List ℕ) → List ℕ → ℕ
place_of [] s = 0
place_of (n ∷ ns) s = pick (equal n s) 0 (suc (place_of ns s))

-- What an entry gives: a value for the generic at a place. "An entry in another form, one with another name" has a place past the generics.
pub record Given : Type 0 where
  pub place : ℕ
  pub value : ℕ

abbrev pub given : ℕ → ℕ → Given
given k v = record { place = k; value = v }

abbrev pub giving : ℕ → Option ℕ → Given
giving k (Some v) = given k v
giving k None = given generic_count 0

unfoldable pub given_by : List ℕ → Given
given_by e = giving (place_of names (name_in e)) (value_of (value_in e))

-- what a text gives
pub data Gathered : Type 0 where
  all : List ℕ → Gathered  -- the values of the generics
  malformed : ℕ → Gathered  -- the number of its first malformed entry, "counted from 1"

-- What entries give after n others, which gave a value to each generic that is marked: an entry that gives none, or "one whose name an entry before it has",
-- is malformed.
unfoldable pub gather : ℕ → List Bool → List ℕ → List (List ℕ) → Gathered
gather n marks vs [] = all vs
gather n marks vs (e ∷ es) =
    let g = given_by e in
    pick (ltb g.place generic_count && not (get_or marks g.place false))
    (gather (suc n) (set marks g.place true) (set vs g.place g.value) es)
    (malformed (suc n))

-- "What is missing has the manual's default"
unfoldable pub gathered_in : List ℕ → Gathered
gathered_in t = gather 0 (replicate generic_count false) defaults (entries_of t)

-- as the call answers it
abbrev pub generics_of : Gathered → Result Config BadEntry
generics_of (all vs) = Ok (config_of vs)
generics_of (malformed k) = Err (record { entry = k })
