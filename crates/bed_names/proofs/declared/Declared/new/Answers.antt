use Rattle.std.proofs.Common.{◌∙◌, ap, subst, map, [], None}
use Rattle.bed_names.specs.Faults.{noted}
use Rattle.bed_names.specs.Tables.{IsIndex}
use Rattle.bed_names.specs.Terms.{twice_faults}
use Rattle.bed_names.proofs.StatementLemmas.{three_notes}
use Rattle.bed_names.proofs.TableLaws.{indexes}
use Rattle.bed_names.proofs.declared.Declared.new.Goals as goal

pub invariant_of-result : goal.invariant_of-result
invariant_of-result c =
    let d = c.args.decls.now in
    let s = c.in_ok-signatures in
    let p = c.in_ok-predicates in
    let l = c.in_ok-labels in
    record {
      signature = indexes (λ s. s.name) d.signatures s.signatures.table
          (subst (λ xs. IsIndex s.signatures.table (map (λ s. s.name) xs)) c.as_slice.ensures s.ensures.table);
      predicate = indexes (λ p. p.name) d.predicates p.predicates.table
          (subst (λ xs. IsIndex p.predicates.table (map (λ p. p.name) xs)) c.as_slice-2.ensures p.ensures.table);
      label = indexes (λ l. l.0) d.labels l.labels.table
          (subst (λ xs. IsIndex l.labels.table (map (λ l. l.0) xs)) c.as_slice-3.ensures l.ensures.table);
      fits = c.requires;
    }

pub returns-clause-found : goal.returns-clause-found
returns-clause-found c =
    let d = c.args.decls.now in
    let s = c.in_ok-signatures in
    let p = c.in_ok-predicates in
    let l = c.in_ok-labels in
    three_notes None s.signatures.found p.predicates.found l.labels.found
    (twice_faults [] (map (λ s. s.name) d.signatures)) (twice_faults [] (map (λ p. p.name) d.predicates)) (twice_faults [] (map (λ l. l.0) d.labels))
    (s.ensures.found ∙ ap (λ xs. noted None (twice_faults [] (map (λ s. s.name) xs))) c.as_slice.ensures)
    (p.ensures.found ∙ ap (λ xs. noted s.signatures.found (twice_faults [] (map (λ p. p.name) xs))) c.as_slice-2.ensures)
    (l.ensures.found ∙ ap (λ xs. noted p.predicates.found (twice_faults [] (map (λ l. l.0) xs))) c.as_slice-3.ensures)
