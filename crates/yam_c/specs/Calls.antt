-- What each exported call answers and leaves, by the definitions of the crates below: document 01's number, 0 for a pass, and every list that it may
-- write. `answers` takes what document 01 has a call answer beside its number, as many of them as it has room for.
use Rattle.std.specs.Prelude.{ℕ, List, [], ◌∷◌, eqb, ltb, length}
use Rattle.laws.specs.Choice.{pick}
use Rattle.words.specs.Words.{Read, Written, read_of, write_of}
use Rattle.state.specs.State.{State, env, reset_machine}
use Rattle.state.specs.Step.{Outcome, step_of}
use Rattle.state.specs.Run as Run
use Rattle.machine.specs.Stepping.{End, end_of, machine_state}
use Rattle.rules.specs.Check.{Answer, check_of}
use Rattle.text.specs.Texts.{Text, text_call}
use Rattle.text.specs.Lines.{Listing, list_of}
use Rattle.assembler.specs.Answers as Assembler
use Rattle.image.specs.Loading.{Load, load_of}
use Rattle.image.specs.Storing.{Store, store_of}
use Rattle.yam_c.specs.Flat.{stored, config_of, config_words, instruction_of, instruction_words, machine_of, machine_words, updated}

-- a number, and the one list that the call may write
pub record Left : Type 0 where
  pub number : ℕ
  pub list : List ℕ

abbrev pub left : ℕ → List ℕ → Left
left n l = record { number = n; list = l }

-- yam_read: on a pass the instruction's words; 7 where their list is not six long, after the word's own refusals
unfoldable pub read_left : Read → List ℕ → Left
read_left r l =
    pick (eqb r.number 0)
    (pick (eqb (length l) 6) (left 0 (stored l 0 (instruction_words r.instruction))) (left 7 l))
    (left r.number l)

abbrev pub read_call : List ℕ → ℕ → List ℕ → Left
read_call config w instruction = read_left (read_of (config_of config) w) instruction

-- yam_write: the word; 0 beside a refusal
unfoldable pub write_left : Written → List ℕ → Left
write_left w answers = left w.number (stored answers 0 (w.word ∷ []))

abbrev pub write_call : List ℕ → List ℕ → List ℕ → Left
write_call config instruction answers = write_left (write_of (config_of config) (instruction_of instruction)) answers

-- yam_reset: 3 where the list is not a hundred long
unfoldable pub reset_call : List ℕ → Left
reset_call f =
    pick (eqb (length f) 100) (left 0 (stored f 0 (machine_words reset_machine.core reset_machine.stack))) (left 3 f)

-- what a step or a run answers and leaves: the machine's words, both memories, both lists of the output log, the answers
pub record Moved : Type 0 where
  pub number : ℕ
  pub machine : List ℕ
  pub registers : List ℕ
  pub memory : List ℕ
  pub addresses : List ℕ
  pub values : List ℕ
  pub answers : List ℕ

abbrev pub moved : ℕ → List ℕ → List ℕ → List ℕ → List ℕ → List ℕ → List ℕ → Moved
moved n machine registers memory addresses values answers =
    record {
      number = n;
      machine = machine;
      registers = registers;
      memory = memory;
      addresses = addresses;
      values = values;
      answers = answers;
    }

-- the same of a state, beside the lists of machine words and answers
abbrev pub moved_to : ℕ → List ℕ → State → List ℕ → Moved
moved_to n machine s answers = moved n machine s.registers s.memory s.addresses s.values answers

-- yam_step: the machine's words change where the number is 0; the answer is the cycles
unfoldable pub step_left : Outcome → List ℕ → List ℕ → Moved
step_left o machine answers =
    moved_to o.number (updated (eqb o.number 0) o.state.core o.state.stack machine) o.state
    (stored answers 0 (o.cycles ∷ []))

abbrev pub step_call : List ℕ → List ℕ → List ℕ → List ℕ → List ℕ → List ℕ → List ℕ → List ℕ → List ℕ → Moved
step_call config image inputs machine registers memory addresses values answers =
    step_left (step_of (env (config_of config) image inputs) (machine_state (machine_of machine) registers memory addresses values)) machine answers

-- yam_run: the machine's words change where a step was done; the answers are the steps and the cycles
unfoldable pub run_left : End → List ℕ → List ℕ → Moved
run_left x machine answers =
    moved_to x.number (updated (ltb 0 x.steps) x.last.core x.last.stack machine) x.last
    (stored answers 0 (x.steps ∷ x.cycles ∷ []))

abbrev pub run_call : List ℕ → List ℕ → List ℕ → List ℕ → List ℕ → List ℕ → List ℕ → List ℕ → ℕ → List ℕ → Moved
run_call config image inputs machine registers memory addresses values budget answers =
    run_left (end_of (Run.run_call budget (env (config_of config) image inputs) (machine_state (machine_of machine) registers memory addresses values))) machine answers

-- yam_check: beside 17 the address and the rule; else the level at address 0, which a refusal has as 0, and 0
unfoldable pub check_left : Answer → List ℕ → Left
check_left a answers =
    left a.number (stored answers 0 (pick (eqb a.number 17) (a.address ∷ a.rule ∷ []) (a.level ∷ 0 ∷ [])))

abbrev pub check_call : List ℕ → List ℕ → List ℕ → List ℕ → Left
check_call config image certificate answers = check_left (check_of (config_of config) image certificate) answers

-- what the text of a word or a listing answers and leaves
pub record Printed : Type 0 where
  pub number : ℕ
  pub page : List ℕ
  pub answers : List ℕ

abbrev pub printed : ℕ → List ℕ → List ℕ → Printed
printed n page answers = record { number = n; page = page; answers = answers }

-- yam_text: the answer is the place
unfoldable pub text_left : Text → List ℕ → Printed
text_left t answers = printed t.number t.page (stored answers 0 (t.place ∷ []))

abbrev pub text_printed : List ℕ → ℕ → List ℕ → ℕ → List ℕ → Printed
text_printed config w page place answers = text_left (text_call (config_of config) w page place) answers

-- yam_list: the answers are the place and the next address
unfoldable pub list_left : Listing → List ℕ → Printed
list_left l answers = printed l.number l.page (stored answers 0 (l.place ∷ l.next ∷ []))

abbrev pub list_call : List ℕ → List ℕ → ℕ → List ℕ → ℕ → List ℕ → Printed
list_call config image first page place answers = list_left (list_of (config_of config) image first page place) answers

-- what assembling answers and leaves
pub record Assembled : Type 0 where
  pub number : ℕ
  pub words : List ℕ
  pub answers : List ℕ

abbrev pub assembled : ℕ → List ℕ → List ℕ → Assembled
assembled n words answers = record { number = n; words = words; answers = answers }

-- yam_assemble: the answers are how many words were written, and the line that the number names
unfoldable pub assemble_left : Assembler.Answer → List ℕ → Assembled
assemble_left a answers = assembled a.number a.words (stored answers 0 (a.count ∷ a.line ∷ []))

abbrev pub assemble_call : List ℕ → List ℕ → List ℕ → List ℕ → Assembled
assemble_call config text words answers = assemble_left (Assembler.assemble_call (config_of config) text words) answers

-- yam_load: 1 where the list for the configuration is not nineteen long; both lists are written on a pass only
pub record Filled : Type 0 where
  pub number : ℕ
  pub config : List ℕ
  pub image : List ℕ

abbrev pub filled : ℕ → List ℕ → List ℕ → Filled
filled n config image = record { number = n; config = config; image = image }

unfoldable pub load_left : Load → List ℕ → Filled
load_left l config = filled l.number (pick (eqb l.number 0) (stored config 0 (config_words l.config)) config) l.image

unfoldable pub load_call : List ℕ → List ℕ → List ℕ → Filled
load_call file config image = pick (eqb (length config) 19) (load_left (load_of file image) config) (filled 1 config image)

-- yam_store
abbrev pub store_left : Store → Left
store_left s = left s.number s.file

abbrev pub store_call : List ℕ → List ℕ → List ℕ → Left
store_call config image file = store_left (store_of (config_of config) image file)
