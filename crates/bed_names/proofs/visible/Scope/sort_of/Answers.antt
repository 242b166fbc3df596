use Rattle.std.proofs.Common.{◌∙◌, sym, map}
use Rattle.bed_names.proofs.ScopeLemmas.{in_names, in_lists, in_binders}
use Rattle.bed_names.proofs.visible.Scope.sort_of.Goals as goal

pub returns-in-Some : goal.returns-in-Some
returns-in-Some c =
    let i = c.self.inside in
    rw (← c.self.view_is) (in_names i.outer.now.names (map (λ y. y.now) i.lists.now) i.binders.now c.args.x.now c.in-Some.sort
    (sym c.sort_of.ensures ∙ c.in-Some.is))

pub returns-in-None : goal.returns-in-None
returns-in-None c =
    let i = c.self.inside in
    rw (← c.self.view_is) (in_lists i.outer.now.names (map (λ y. y.now) i.lists.now) i.binders.now c.args.x.now
    (sym c.sort_of.ensures ∙ c.in-None.is) (sym c.is_listed.ensures ∙ c.if-is_listed.true))

pub returns-in-None-2 : goal.returns-in-None-2
returns-in-None-2 c =
    let i = c.self.inside in
    rw (← c.self.view_is) (c.sort_of-in-None-2.ensures ∙ in_binders i.outer.now.names (map (λ y. y.now) i.lists.now) i.binders.now c.args.x.now
    (sym c.sort_of.ensures ∙ c.in-None.is) (sym c.is_listed.ensures ∙ c.if-is_listed.false))
