-- The arguments that are read are as many as the host with this number takes.
use Rattle.std.proofs.Common.{◌≡◌, length, refl, sym, ap, subst, ◌∙◌}
use Rattle.bed_io.specs.Host.{HostState}
use Rattle.bed_run.specs.Hosted.{AreArguments, IsMissing, answered}
use Rattle.bed_run.specs.Runs.{machine_of}
use Rattle.bed_run.specs.Calls.{IsRead}
use Rattle.bed_run.proofs.ListLemmas.{seen_at}
use Rattle.bed_run.proofs.hosts.call_at.Goals as goal

pub call_in-requires-clause-words : goal.call_in-requires-clause-words
call_in-requires-clause-words g c = λ h at.
    let arity : c.arity_of-arity.result ≡ h.arity = c.arity_of-arity.ensures
    ∙ ap (λ (k : HostState). k.arity) (sym (seen_at _ c.args.hosts.now.items c.args.number c.index.result.now h c.requires.within c.index.ensures at)) in
    let are : AreArguments (g.D.Store.bytes c.args.s.now.mem) c.args.s.now.regs.ebp c.arity_of-arity.result c.in-Words.args.items =
    subst (λ r. IsRead (g.D.Store.bytes c.args.s.now.mem) c.args.s.now.regs.ebp c.arity_of-arity.result r) c.in-Words.is c.in_ok-at.ensures in
    ap length c.deref.ensures.value ∙ (are.count ∙ arity)

pub returns-in-Missing-clause-called : goal.returns-in-Missing-clause-called
returns-in-Missing-clause-called g c = λ h at.
    let arity : c.arity_of-arity.result ≡ h.arity = c.arity_of-arity.ensures
    ∙ ap (λ (k : HostState). k.arity) (sym (seen_at _ c.args.hosts.now.items c.args.number c.index.result.now h c.requires.within c.index.ensures at)) in
    record {
      missing = subst (λ n. IsMissing (g.D.Store.bytes c.args.s.now.mem) c.args.s.now.regs.ebp n c.in-Missing.at) arity
          (subst (λ r. IsRead (g.D.Store.bytes c.args.s.now.mem) c.args.s.now.regs.ebp c.arity_of-arity.result r) c.in-Missing.is c.in_ok-at.ensures);
      machine_stays = refl;
      hosts_stay = refl;
    }

pub returns-in_ok-answer-in-Words-clause-called : goal.returns-in_ok-answer-in-Words-clause-called
returns-in_ok-answer-in-Words-clause-called g c = λ h at.
    let arity : c.arity_of-arity.result ≡ h.arity = c.arity_of-arity.ensures
    ∙ ap (λ (k : HostState). k.arity) (sym (seen_at _ c.args.hosts.now.items c.args.number c.index.result.now h c.requires.within c.index.ensures at)) in
    let are : AreArguments (g.D.Store.bytes c.args.s.now.mem) c.args.s.now.regs.ebp c.arity_of-arity.result c.in-Words.args.items =
    subst (λ r. IsRead (g.D.Store.bytes c.args.s.now.mem) c.args.s.now.regs.ebp c.arity_of-arity.result r) c.in-Words.is c.in_ok-at.ensures in
    record {
      args = c.deref.result.now;
      are = subst (λ n. AreArguments (g.D.Store.bytes c.args.s.now.mem) c.args.s.now.regs.ebp n c.deref.result.now) arity
          (subst (λ args. AreArguments (g.D.Store.bytes c.args.s.now.mem) c.args.s.now.regs.ebp c.arity_of-arity.result args) (sym c.deref.ensures.value) are);
      machine_is = ap (answered (machine_of g.D.Store.bytes c.args.s.now)) (c.in_ok-answer-in-Words.ensures.answer h at);
      hosts_are = c.in_ok-answer-in-Words.ensures.after h at;
    }
