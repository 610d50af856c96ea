-- Sources, computed from the definitions. Assumes nothing.
use Prim.Native.Nat.{ℕ}
use Prim.Native.String.{String}
use mathlib.Core.Bool.{Bool, true, ◌&&◌}
use mathlib.Core.List.{List, [], ◌∷◌}
use lib.Dec.{T, eqb}
use Rattle.laws.specs.Choice.{pick}
use Rattle.words.specs.declared.Config.{Config}
use Rattle.words.specs.Configs.{lawful}
use Rattle.words.specs.Parts.{in_range, available}
use Rattle.words.specs.Rows.{rows, row_at}
use Rattle.words.specs.Words.{fits, refusals567, gather, word_from, word_of, written, write_lawful}
use Rattle.syntax.specs.Digits.{spelled, digit}
use Rattle.syntax.specs.Quoted.{quoted}
use Rattle.syntax.specs.Pieces.{equal}
use Rattle.syntax.specs.Styles.{styles, style_at}
use Rattle.syntax.specs.Forms.{number_text, flag_text, pieces_of, part_of, numbers_of, flags_of, forms_of, forms}
use Rattle.syntax.specs.Reading.{reading, is_form, read_line}
use Rattle.syntax.specs.Lines.{lines_of, is_small, letters_of, beyond, is_label, starts, labelled, behind_label, lone, body_of, counts}
use Rattle.syntax.specs.Labels.{gathered, address_of, repeats, name_length, operands_of, target_of, with_address, given_by}
use Rattle.syntax.specs.Assembly.{word_at, words_from, source_refusals, assemble_of}
use Rattle.syntax.specs.Claims.{resolved_body, resolved_line, unlined, resolved}

-- the configuration of document 01's listing
abbrev c : Config
c = record {
  imwidth = 32;
  imsize = 6;
  regwidth = 32;
  regsize = 16;
  rmsize = 16;
  pcstack = 1;
  dmsize = 32;
  dmpipe = 0;
  alulevel = 2;
  alumult = 0;
  aluspr = 0;
  iopif = 0;
  ioprmw = 0;
  yamclk = 0;
  yamsreg3 = 0;
  alu3op = 0;
  irqif = 0;
  copmsize = 0;
  yamdbg = 0;
}

abbrev answers : String → ℕ → ℕ → List ℕ → Bool
answers s n k ws = let r = assemble_of c (quoted s) 8 in eqb r.number n && (eqb r.line k && equal r.words ws)

six_words : T (answers "MOV %06,#0010\nLDYX %04,%02\nloop:\nMOVX @%06,@%X+,S\nADD %06,#0001\nJMP loop,NZ\nend: JMP end\n" 0 0
    (0xa2860010 ∷ 0x9c041402 ∷ 0x98061800 ∷ 0x46860001 ∷ 0xc1000002 ∷ 0xc0000005 ∷ []))
unfolding pick lawful in_range available rows row_at fits refusals567 gather word_from word_of written write_lawful spelled digit styles style_at number_text flag_text pieces_of part_of numbers_of flags_of forms_of forms reading is_form read_line lines_of is_small letters_of beyond is_label starts labelled behind_label lone body_of counts gathered address_of repeats name_length operands_of target_of with_address given_by word_at words_from source_refusals assemble_of
six_words = tt

-- and with addresses for its labels
six_resolved : T (equal (resolved (quoted "MOV %06,#0010\nLDYX %04,%02\nloop:\nMOVX @%06,@%X+,S\nADD %06,#0001\nJMP loop,NZ\nend: JMP end\n"))
    (quoted "MOV %06,#0010\nLDYX %04,%02\n\nMOVX @%06,@%X+,S\nADD %06,#0001\nJMP 000002,NZ\nJMP 000005\n"))
unfolding pick spelled digit lines_of is_small letters_of beyond is_label starts labelled behind_label lone body_of counts gathered address_of name_length operands_of target_of with_address resolved_body resolved_line unlined resolved
six_resolved = tt

-- the readings of document 02, one by one: source, number, line, words
abbrev all_answer : List (String × (ℕ × (ℕ × List ℕ))) → Bool
all_answer [] = true
all_answer (x ∷ xs) = answers x.0 x.1.0 x.1.1.0 x.1.1.1 && all_answer xs

abbrev cases : List (String × (ℕ × (ℕ × List ℕ)))
cases =
    ("", (0, (0, []))) ∷
    ("\n\n", (0, (0, []))) ∷
    ("JMP end\nend:", (0, (0, 0xc0000001 ∷ []))) ∷
    ("loop: JSRWP loop,020", (26, (1, []))) ∷
    ("JMP abcdef", (7, (1, []))) ∷
    ("JMP 000005", (0, (0, 0xc0000005 ∷ []))) ∷  -- K2: by IM_SIZE, which is 6, and not by how many words the text has
    ("JMP 000006", (7, (1, []))) ∷
    ("JMP end\nRET\nRET\nRET\nRET\nRET\nend:", (7, (1, []))) ∷
    ("JMP face", (26, (1, []))) ∷
    ("loop:RET", (26, (1, []))) ∷
    ("loop: FOO\nJMP loop", (26, (1, []))) ∷
    ("JMP loop\nloop: FOO", (26, (2, []))) ∷
    ("JMP loop\nloop:RET", (26, (2, []))) ∷
    ("loop:  RET", (26, (1, []))) ∷
    ("loop: ", (26, (1, []))) ∷
    ("z:\nz:\nFOO", (24, (2, []))) ∷
    ("FOO\nz:\nz:", (24, (3, []))) ∷
    ("RET\nJMP nowhere", (25, (2, []))) ∷
    ("JMP nowhere,XX", (26, (1, []))) ∷
    ("JMP nowhere\nFOO", (25, (1, []))) ∷
    ("BST4 %00,%01", (26, (1, []))) ∷
    ("BST3 %00,%01", (0, (0, 0x9d800101 ∷ []))) ∷
    ("MOV %80,%00", (7, (1, []))) ∷
    ("MOV %10,%00", (7, (1, []))) ∷
    ("MOV %0A,%00", (26, (1, []))) ∷
    ("JSRWP 0040,021", (26, (1, []))) ∷
    ("JSRWP 0040,020", (6, (1, []))) ∷
    ("MUL %00,%01,S", (6, (1, []))) ∷
    ("COP0 %04,#0012,1", (26, (1, []))) ∷
    ("JMP 000000,NIRQ", (26, (1, []))) ∷
    ("RETI", (26, (1, []))) ∷
    ("RET ", (26, (1, []))) ∷
    (" RET", (26, (1, []))) ∷
    ("RET\r", (26, (1, []))) ∷
    ("abcdefghijklm: MOV %00,%01", (26, (1, []))) ∷
    ("abcdefghijkl: RET", (0, (0, 0xf0000000 ∷ []))) ∷
    ("Loop: MOV %00,%01", (26, (1, []))) ∷
    ("face: MOV %00,%01", (26, (1, []))) ∷
    ("SHR %00,#0010,S", (7, (1, []))) ∷
    ("RET\nRET\nRET\nRET\nFOO\nRET\nRET\nRET\nRET", (36, (0, []))) ∷
    ("z:\nz:\nRET\nRET\nRET\nRET\nRET\nRET\nRET\nRET\nRET", (36, (0, []))) ∷
    ("MOV %00,#loop", (26, (1, []))) ∷
    ("?5", (26, (1, []))) ∷
    []

all_cases : T (all_answer cases)
unfolding pick lawful in_range available rows row_at fits refusals567 gather word_from word_of written write_lawful spelled digit styles style_at number_text flag_text pieces_of part_of numbers_of flags_of forms_of forms reading is_form read_line lines_of is_small letters_of beyond is_label starts labelled behind_label lone body_of counts gathered address_of repeats name_length operands_of target_of with_address given_by word_at words_from source_refusals assemble_of
all_cases = tt
