-- The blocks of a whole function.
use Rattle.std.proofs.Common.{◌≡◌, ℕ, ◌+◌, ◌≤◌, inl, inr, false, None, List, [], ◌∷◌, ◌++◌, Contains, refl, sym, ap, subst, arith}
use Rattle.std.proofs.lemmas.List.{append-nil}
use Rattle.std.proofs.lemmas.List.Elements.{Contains-append_cases}
use Rattle.bed_lang.specs.declared.condition.Decls.{Decls}
use Rattle.bed_lang.specs.declared.statement.Stmt.{Stmt}
use Rattle.bed_table.specs.CodeTable.{entry}
use Rattle.bed_table.specs.Code.{body_piece}
use Rattle.bed_sat.specs.Conditions.{body_part}
use Rattle.bed_sat.proofs.PathLaws.{paths_end}
use Rattle.bed_il.specs.declared.blocks.Inst.TheVariants.{SaveReturn}
use Rattle.bed_il.specs.declared.blocks.Block.{Block}
use Rattle.bed_il.specs.BlockMachine.{block_at}
use Rattle.bed_il.specs.Fit.{Fit, named_labels}
use Rattle.bed_laws.specs.Activations.{FunctionSite}
use Rattle.bed_laws.specs.Keeps.{Law}
use Rattle.bed_laws.specs.Spans.{Spans}
use Rattle.bed_laws.specs.Lays.{Lays, behind}
use Rattle.bed_laws.specs.Statements.{LayStatements}
use Rattle.bed_laws.proofs.TestLaws.{one_span, no_heads, only_one}
use Rattle.bed_laws.proofs.FitLaws.{is_some_is}
use Rattle.bed_laws.proofs.LayLaws.{lays_same, then_lays, both, falling_lays}
use Rattle.bed_laws.proofs.MacroLaws.{just_after}
use Rattle.bed_bodies.specs.Demands.{AreMet}
use Rattle.bed_bodies.specs.Bodies.{body_built}
use Rattle.bed_bodies.specs.Laws.{AreOf}
use Rattle.bed_bodies.specs.Functions.{entry_block, end_of, function_blocks, function_heads, whole_piece, FunctionLaws}
use Rattle.bed_bodies.proofs.BodyLaws.{body_laws}

module _ (d : Decls) (c : FunctionSite) (body : List Stmt) (met : AreMet d c (body_built body).demands) (stops : (body_piece body).falls ≡ false) where
  abbrev inner : List Block
  inner = (body_built body).code c.site.locals 1 (end_of body)

  abbrev blocks : List Block
  blocks = function_blocks c.site.locals body

  laws : AreOf body (body_built body)
  laws = body_laws body

  inner_span : Spans inner (function_heads body) 1 (end_of body)
  inner_span = laws.spans c.site.locals 1 (end_of body)

  inner_lays : LayStatements c.site.locals inner (function_heads body) 1 (end_of body) body
  inner_lays = laws.lays d c met 1 (end_of body) (just_after 1 (body_built body).count)

  entry_lays : Lays c.site.locals (entry_block ∷ []) [] 0 1 entry
  entry_lays = falling_lays c.site.locals (SaveReturn ∷ []) 0 1 entry refl refl (λ at. refl) refl (λ functions places at. refl)

  whole_lays : Lays c.site.locals blocks (function_heads body) 0 (end_of body) (whole_piece body)
  whole_lays =
      lays_same c.site.locals blocks (function_heads body) 0 (end_of body)
      (both c.site.locals (entry_block ∷ []) inner [] (function_heads body) 0 1 (end_of body) (end_of body) (one_span entry_block [] (λ x is. no_heads x is)) inner_span entry (body_piece body) entry_lays inner_lays)
      (whole_piece body) refl
      (let e : entry.size + (body_piece body).size ≡ entry.size + ((body_piece body).size + 0) = omega arith in e)
      (λ functions at. ap (λ l. entry.bytes c.site.locals functions at ++ l) (sym (append-nil ((body_piece body).bytes c.site.locals functions (at + entry.size)))))
      (λ at. sym (append-nil ((body_piece body).heads (at + entry.size))))
      (then_lays c.site.locals (entry_block ∷ []) inner [] (function_heads body) 0 1 (end_of body) (end_of body) (one_span entry_block [] (λ x is. no_heads x is)) inner_span entry (body_piece body) entry_lays inner_lays)

  -- a label that the body names is one of the body's
  named_inside : (l : ℕ) → Contains (named_labels inner) l → 1 ≤ l
  named_inside l is =
      let f : Fit inner None = subst (λ b. Fit inner (behind b (end_of body))) stops inner_lays.fit in
      elim (f.named l is) [
        | inl p ↦ let b = is_some_is (block_at inner l) p in (inner_span.blocks_in l b.0 b.1).0
        | inr e ↦ absurd (cc)
      ]

  not_zero : (l : ℕ) → 1 ≤ l → l ≡ 0 → ⊥
  not_zero l le e = omega arith

  alone : Contains (named_labels blocks) 0 → ⊥
  alone is = elim (Contains-append_cases (1 ∷ []) (named_labels inner) 0 is) [
    | inl p ↦ not_zero 1 (omega arith) (only_one p)
    | inr p ↦ not_zero 0 (named_inside 0 p) refl
  ]

  pub function_laws : FunctionLaws c body
  function_laws = record {
    fit = record {
      fit = subst (λ b. Fit blocks (behind b (end_of body))) stops whole_lays.fit;
      first = refl;
      code = record { block = entry_block; found = refl; some = λ e. absurd (cc) };
      alone = alone;
    };
    lays = whole_lays;
    keeps = λ w met distinct places from.
        subst (λ o. Law w c places inner (function_heads body) 1 (end_of body) ((body_part c.site body).owes from) from o) (paths_end c.site body stops from)
        (laws.keeps w c met distinct places 1 (end_of body) (just_after 1 (body_built body).count) from);
  }
