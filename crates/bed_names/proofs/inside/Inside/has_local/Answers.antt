use Rattle.std.proofs.Common.{◌∙◌, sym}
use Rattle.bed_names.proofs.ScopeLemmas.{is_in_first, is_in_second}
use Rattle.bed_names.proofs.inside.Inside.has_local.Goals as goal

pub returns-then-is_among : goal.returns-then-is_among
returns-then-is_among c =
    let i = c.self.inside in
    rw (← c.self.view_is) (c.if-is_among.true ∙ is_in_first i.params.now i.locals.now c.args.x.now (sym c.if-is_among.ensures))

pub returns-else-is_among : goal.returns-else-is_among
returns-else-is_among c =
    let i = c.self.inside in
    rw (← c.self.view_is) (c.is_among-else-is_among.ensures
    ∙ is_in_second i.params.now i.locals.now c.args.x.now (sym c.if-is_among.ensures))
