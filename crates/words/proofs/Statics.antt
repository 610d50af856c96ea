-- The tables that stand in the code are those of specs/Packed.antt and specs/Lookup.antt; and what laws about lent tables ask of these.
-- Assumes nothing.
use mathlib.Core.Path.{◌≡◌, refl}
use mathlib.Core.Bool.{true}
use Rattle.laws.specs.Choice.{pick, true_is}
use Rattle.laws.specs.Test.{test, Holds, holds}
use Rattle.words.specs.declared.Config.{Config}
use Rattle.words.specs.declared.classes.TheConstants.{CLASSES}
use Rattle.words.specs.declared.columns.TheConstants.{BASES, ENTRIES, ROWS}
use Rattle.words.specs.Configs.{lawful}
use Rattle.words.specs.Kinds.{marks_of}
use Rattle.words.specs.Codes.{part_code, option_code, weight}
use Rattle.words.specs.Rows.{rows}
use Rattle.words.specs.Classes.{class_of}
use Rattle.words.specs.Actions.{entries}
use Rattle.words.specs.Packed.{packed, class_table, base_table, row_table, Tables}
use Rattle.words.specs.Lookup.{entry_at, entry_table, uppers, lowers, Limits}

pub classes : CLASSES ≡ class_table
unfolding class_table class_of pick
classes = refl

pub bases : BASES ≡ base_table
unfolding base_table rows
bases = refl

pub packs : ROWS ≡ row_table
unfolding row_table rows packed part_code option_code marks_of weight
packs = refl

pub entry_list : ENTRIES ≡ entry_table
unfolding entry_table entry_at entries
entry_list = refl

pub tables : Tables CLASSES BASES ROWS
tables = record { classes_right = classes; bases_right = bases; packs_right = packs }

pub own_tables : Tables class_table base_table row_table
own_tables = record { classes_right = refl; bases_right = refl; packs_right = refl }

pub own_limits : (c : Config) → Limits c entry_table (uppers c) (lowers c)
own_limits c = record { entries_right = refl; uppers_right = refl; lowers_right = refl }

-- what a reader or a writer knows of its configuration, as laws ask it
pub lawful_here : (c : Config) → test (lawful c) ≡ true → Holds (lawful c)
lawful_here c e = holds (lawful c) (true_is _ e)
