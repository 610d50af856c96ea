-- `cells::decoding::Template::of_row` keeps to what a template's digits are, row by row. Assumes nothing.
use Rattle.std.proofs.Common.{◌≡◌, arith}
use Rattle.cells.specs.Templates.{template_of}
use Rattle.cells.proofs.templates.Laws.{template_is}
use Rattle.cells.proofs.Filled.{template_cost, template_known}
use Rattle.cells.proofs.decoding.Template.of_row.Goals as goal

pub invariant_of-result : goal.invariant_of-result
invariant_of-result c =
    let e : c.unwrap_or.result ≡ template_of c.args.n = grind (arith, template_is) in
    record { cheap = rw e (template_cost c.args.n); known = rw e (template_known c.args.n) }
