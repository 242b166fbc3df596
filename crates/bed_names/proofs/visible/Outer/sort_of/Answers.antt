use Rattle.std.proofs.Common.{◌∙◌, sym, true, false}
use Rattle.bed_names.proofs.ScopeLemmas.{in_params, in_logical, in_locals}
use Rattle.bed_names.proofs.visible.Outer.sort_of.Goals as goal

pub returns-then-is_among : goal.returns-then-is_among
returns-then-is_among c =
    let i = c.self.inside in
    rw (← c.self.view_is) (in_params i.params.now i.logical.now i.locals.now c.args.x.now (sym c.if-is_among.ensures))

pub returns-in-Some : goal.returns-in-Some
returns-in-Some c =
    let i = c.self.inside in
    rw (← c.self.view_is) (in_logical i.params.now i.logical.now i.locals.now c.args.x.now c.in-Some.sort
    (sym c.if-is_among.ensures) (sym c.sort_of.ensures ∙ c.in-Some.is))

pub returns-in-None : goal.returns-in-None
returns-in-None c =
    let i = c.self.inside in
    rw (← c.self.view_is) (in_locals i.params.now i.logical.now i.locals.now c.args.x.now true
    (sym c.if-is_among.ensures) (sym c.sort_of.ensures ∙ c.in-None.is) (sym c.if-is_among-2.ensures))

pub returns-in-None-2 : goal.returns-in-None-2
returns-in-None-2 c =
    let i = c.self.inside in
    rw (← c.self.view_is) (in_locals i.params.now i.logical.now i.locals.now c.args.x.now false
    (sym c.if-is_among.ensures) (sym c.sort_of.ensures ∙ c.in-None.is) (sym c.if-is_among-2.ensures))
