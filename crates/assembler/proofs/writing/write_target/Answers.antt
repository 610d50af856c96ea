-- `assembler::writing::write_target` meets its contract. Assumes nothing.
use mathlib.Core.Path.{refl}
use native.Mathlib.Omega.{arith}
use Rattle.assembler.proofs.writing.Laws.{missing, handed_on, letters_fit, no_space, no_label, label_unread, label_unknown, label_found}
use Rattle.assembler.proofs.writing.write_target.Goals as goal

pub returns-then-line-name : goal.returns-then-line-name
returns-then-line-name c = no_space _ _ _ _ c.args.writer.now.is_lawful c.requires c.name_length-name.ensures c.if-line-name.true

pub returns-in_err-key : goal.returns-in_err-key
returns-in_err-key c = let m = missing _ _ _ c.in_err-key.ensures.value in
    handed_on _ _ _ _ _ _ c.from_residual.ensures.1 m.1
    (no_label _ _ _ _ c.args.writer.now.is_lawful c.requires c.name_length-name.ensures _ _ refl c.if-line-name.false c.letters-letters.ensures _ c.of.ensures m.0)

pub read_zeroed-requires : goal.read_zeroed-requires
read_zeroed-requires c = letters_fit c.args.line.now _ _ (omega (arith, c.if-line-name.false)) c.letters-letters.ensures

pub returns-in_err-i : goal.returns-in_err-i
returns-in_err-i c = let m = missing _ _ _ c.in_err-i.ensures.value in
    handed_on _ _ _ _ _ _ c.from_residual-in_err-i.ensures.1 m.1
    (label_unread _ _ _ _ c.args.writer.now.is_lawful c.requires c.name_length-name.ensures _ _ refl c.if-line-name.false c.letters-letters.ensures
    _ _ c.of.ensures c.in_ok-key.ensures.ok_part _ c.read_zeroed.ensures m.0)

pub returns-in_err-a : goal.returns-in_err-a
returns-in_err-a c = let m = missing _ _ _ c.in_err-a.ensures.value in
    handed_on _ _ _ _ _ _ c.from_residual-in_err-a.ensures.1 m.1
    (label_unknown _ _ _ _ c.args.writer.now.is_lawful c.requires c.name_length-name.ensures _ _ refl c.if-line-name.false c.letters-letters.ensures
    _ _ c.of.ensures c.in_ok-key.ensures.ok_part _ _ c.read_zeroed.ensures c.in_ok-i.ensures.ok_part _ c.address_of.ensures m.0)

pub returns : goal.returns
returns c = label_found _ _ _ _ c.args.writer.now.is_lawful c.requires c.name_length-name.ensures _ _ refl c.if-line-name.false c.letters-letters.ensures
    _ _ c.of.ensures c.in_ok-key.ensures.ok_part _ _ c.read_zeroed.ensures c.in_ok-i.ensures.ok_part
    _ _ _ _ c.address_of.ensures c.in_ok-a.ensures.ok_part c.aim_at.ensures c.write.ensures
