-- Records as flat lists of 32-bit words, in the order of include/yam.h. Each reading is total: a list of another length gives a record that the call
-- itself refuses, with its own number and in its own order.
use Rattle.std.specs.Prelude.{ℕ, ◌+◌, ◌*◌, ◌/◌, ◌%◌, ◌^◌, Bool, List, [], ◌∷◌, ◌++◌, eqb, length, get_or, take, drop, replicate}
use Rattle.std.proofs.lemmas.List.Edits.{sets}
use Rattle.laws.specs.Choice.{pick}
use Rattle.laws.specs.Test.{Test, same, each, ◌and◌, test}
use Rattle.words.specs.declared.Config.{Config}
use Rattle.words.specs.declared.Instruction.{Instruction}
use Rattle.state.specs.declared.Core.{Core}
use Rattle.state.specs.declared.Machine.{Machine}
use Rattle.state.specs.State.{reset_core}
use Rattle.state.specs.Cores.{at}

-- numbers stored one after the other from a place on; those that would fall past the end are not stored
unfoldable pub stored : List ℕ → ℕ → List ℕ → List ℕ
stored l at vs = sets l at vs

-- word i of a list; 0 past its end
abbrev pub cell : List ℕ → ℕ → ℕ
cell f i = get_or f i 0

-- a number as a 32-bit word, and what lies above it
abbrev pub low : ℕ → ℕ
low n = n % 2 ^ 32

abbrev pub high : ℕ → ℕ
high n = n / 2 ^ 32

-- the number of two words
abbrev pub wide : ℕ → ℕ → ℕ
wide l h = l + h * 2 ^ 32

-- a configuration: block 0's fourteen generics in its order, then ALU_3OP, IRQ_IF, COPM_SIZE, then IM_WIDTH, YAM_DBG
abbrev pub config_words : Config → List ℕ
config_words c =
    c.imsize ∷ c.regwidth ∷ c.regsize ∷ c.rmsize ∷ c.pcstack ∷ c.dmsize ∷ c.dmpipe ∷ c.alulevel ∷ c.alumult ∷ c.aluspr ∷
    c.iopif ∷ c.ioprmw ∷ c.yamclk ∷ c.yamsreg3 ∷
    c.alu3op ∷ c.irqif ∷ c.copmsize ∷
    c.imwidth ∷ c.yamdbg ∷
    []

abbrev pub config_in : List ℕ → Config
config_in f =
    record {
      imsize = cell f 0;
      regwidth = cell f 1;
      regsize = cell f 2;
      rmsize = cell f 3;
      pcstack = cell f 4;
      dmsize = cell f 5;
      dmpipe = cell f 6;
      alulevel = cell f 7;
      alumult = cell f 8;
      aluspr = cell f 9;
      iopif = cell f 10;
      ioprmw = cell f 11;
      yamclk = cell f 12;
      yamsreg3 = cell f 13;
      alu3op = cell f 14;
      irqif = cell f 15;
      copmsize = cell f 16;
      imwidth = cell f 17;
      yamdbg = cell f 18;
    }

-- of another length than 19: all zeros, which 1 refuses
unfoldable pub config_of : List ℕ → Config
config_of f = config_in (pick (eqb (length f) 19) f [])

-- an instruction: its row, bit 26, then the parts by place
abbrev pub instruction_words : Instruction → List ℕ
instruction_words i = i.row ∷ i.flag ∷ i.destination ∷ i.source ∷ i.number ∷ i.value ∷ []

abbrev pub instruction_in : List ℕ → Instruction
instruction_in f =
    record { row = cell f 0; flag = cell f 1; destination = cell f 2; source = cell f 3; number = cell f 4; value = cell f 5 }

-- TST %d,%s with a source that no field holds: 7 refuses it in every lawful configuration
abbrev pub too_wide : Instruction
too_wide = record { row = 0; flag = 0; destination = 0; source = 4294967295; number = 0; value = 0 }

unfoldable pub instruction_of : List ℕ → Instruction
instruction_of f = pick (eqb (length f) 6) (instruction_in f) too_wide

-- the machine record: seventeen words of the core, the two positions as two words each, low word first; the return stack; what document 02 adds
abbrev pub core_words : Core → List ℕ
core_words m =
    low m.pc ∷ low m.wp ∷ low m.rx ∷ low m.ry ∷ low m.n ∷ low m.z ∷ low m.spr7 ∷ low m.depth ∷
    low m.imask ∷ low m.saved ∷ low m.mode ∷ low m.posted ∷ low m.port ∷
    low m.taken ∷ high m.taken ∷ low m.logged ∷ high m.logged ∷
    []

-- K4's mark that an LDYX has run since reset, then nineteen zeros
abbrev pub added_words : Core → List ℕ
added_words m = m.loaded ∷ replicate 19 0

unfoldable pub machine_words : Core → List ℕ → List ℕ
machine_words m stack = core_words m ++ (stack ++ added_words m)

abbrev pub core_in : List ℕ → Core
core_in f =
    record {
      pc = cell f 0;
      wp = cell f 1;
      rx = cell f 2;
      ry = cell f 3;
      loaded = cell f 80;
      n = cell f 4;
      z = cell f 5;
      spr7 = cell f 6;
      depth = cell f 7;
      imask = cell f 8;
      saved = cell f 9;
      mode = cell f 10;
      posted = cell f 11;
      port = cell f 12;
      taken = wide (cell f 13) (cell f 14);
      logged = wide (cell f 15) (cell f 16);
    }

-- the return stack's cells
abbrev pub stack_in : List ℕ → List ℕ
stack_in f = take 63 (drop 17 f)

-- PC at 2^23, which is outside its range, all else as at reset: 3 refuses it, after 1 and 2
abbrev pub outside : Machine
outside = record { core = at reset_core 8388608; stack = replicate 63 0 }

-- a hundred words, of which the last nineteen are zero
abbrev pub shaped : List ℕ → Test
shaped f = same (length f) 100 and each 1 (drop 81 f)

unfoldable pub machine_of : List ℕ → Machine
machine_of f = pick (test (shaped f)) (record { core = core_in f; stack = stack_in f }) outside

-- a list of machine words after a call: the new machine's where the call changed it, else as it was
unfoldable pub updated : Bool → Core → List ℕ → List ℕ → List ℕ
updated changed m stack f = pick changed (stored f 0 (machine_words m stack)) f
