use Rattle.bed_names.proofs.TermLemmas.{cons_notes, app_notes}
use Rattle.bed_names.proofs.terms.+seq.Goals as goal

pub returns-in-Cons : goal.returns-in-Cons
returns-in-Cons t c =
    cons_notes c.args.scope.now c.args.found c.word.result c.seq.result c.args.s.now c.in-Cons.s c.in-Cons.a
    c.get.result.now c.get-in-Cons.result.now c.in-Cons.is c.get.ensures c.get-in-Cons.ensures c.word.ensures c.seq.ensures

pub returns-in-App : goal.returns-in-App
returns-in-App t c =
    app_notes c.args.scope.now c.args.found c.seq-in-App.result c.seq-in-App-2.result c.args.s.now c.in-App.s c.in-App.t
    c.get-in-App.result.now c.get-in-App-2.result.now c.in-App.is c.get-in-App.ensures c.get-in-App-2.ensures
    c.seq-in-App.ensures c.seq-in-App-2.ensures
