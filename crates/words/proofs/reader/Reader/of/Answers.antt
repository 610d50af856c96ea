-- `words::reader::Reader::of` meets its contract. Assumes nothing.
use Rattle.words.proofs.ClassesExact.{classes_exact}
use Rattle.words.proofs.reader.Reader.of.Goals as goal

pub returns-then-not-lawful-clause-classes : goal.returns-then-not-lawful-clause-classes
returns-then-not-lawful-clause-classes c = classes_exact

pub returns-clause-classes : goal.returns-clause-classes
returns-clause-classes c = classes_exact
