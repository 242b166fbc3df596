-- Small bodies with calls, stores and loads, whose conditions are valid or aren't.
use Rattle.std.proofs.Common.{◌≡◌, ℕ, ◌+◌, Bool, true, false, Option, Some, None, IsSome, option_map, List, [], ◌∷◌, bytes_eq, nat_eq, codes, if◌then◌else◌, All, inl, inr, refl, sym, ◌∙◌, ap, ap₂, subst, subst₂, arith}
use Rattle.std.proofs.lemmas.List.Elements.{All-cons, All-nil}
use Rattle.bed_lang.specs.Numbers.{wrap}
use Rattle.bed_machine.specs.Memory.{Memory, empty, put_byte, put_word}
use Rattle.bed_machine.proofs.WordLaws.{four_bytes, put_byte_same, put_byte_gives, some_same}
use Rattle.bed_lang.specs.declared.word.Name.{Name}
use Rattle.bed_lang.specs.declared.word.Var.TheVariants as var
use Rattle.bed_lang.specs.declared.word.Word.{Word, Number, Var as WordVar}
use Rattle.bed_lang.specs.declared.logic.Pure.TheVariants as pure
use Rattle.bed_lang.specs.declared.logic.Atom.TheVariants as atom
use Rattle.bed_lang.specs.declared.logic.Term.TheVariants as term
use Rattle.bed_lang.specs.declared.logic.Assertion.{Assertion}
use Rattle.bed_lang.specs.declared.module.Operand.TheVariants as operand
use Rattle.bed_lang.specs.declared.module.Action.TheVariants as action
use Rattle.bed_lang.specs.declared.module.Module.{Module}
use Rattle.bed_lang.specs.declared.module.Function.{Function}
use Rattle.bed_lang.specs.declared.module.Signature.{Signature}
use Rattle.bed_lang.specs.declared.condition.Decls.{Decls}
use Rattle.bed_lang.specs.declared.condition.Goal.TheVariants.{Calls, Returns}
use Rattle.bed_lang.specs.declared.condition.Cond.{Cond}
use Rattle.bed_lang.specs.Lookups.{second_of, signature_named}
use Rattle.bed_lang.specs.Prelude.{name, word}
use Rattle.bed_lang.specs.Values.{Values, Named, Old, Answer, set_word, value}
use Rattle.bed_lang.proofs.ValueLaws.{value-Number, value-Var, value-Add}
use Rattle.bed_table.specs.ListLoops.{field_at}
use Rattle.bed_sat.specs.Parts.{Joins}
use Rattle.bed_sat.specs.Cells.{IsCell, IsByte}
use Rattle.bed_sat.specs.Assertions.{World, Holds}
use Rattle.bed_sat.specs.Frames.{set_words}
use Rattle.bed_lang.specs.Declarations.{all_declarations}
use Rattle.bed_sat.specs.Conditions.{Site, site_of, path_at_entry, path_from, then_action, condition, conditions}
use Rattle.bed_sat.specs.Valid.{set_local, LabelsFit, CallHolds, IsValid}
use Rattle.bed_sat.specs.Examples.{bytes_at, asserts}
use Rattle.bed_sat.specs.ConditionExamples.{y, just_emp, is_seven, signature}
use Rattle.bed_sat.specs.BodyExamples.{callee, calling_body, calling_text, is_eight, WrongAfterExample, argument_cell, NoCellExample, three, DroppedCellExample, seven_beside, result_beside, CellStaysExample, field, some_field, seven_stored, storing_function, storing_module, StoringExample, some_byte, seven_byte, byte_function, byte_module, ByteExample, unmapped_function, unmapped_module, UnmappedStoreExample, UnknownTargetExample}
use Rattle.bed_sat.proofs.PartLaws.{joins_comm, joins_empty, to_empty, joins_left}
use Rattle.bed_sat.proofs.RowLaws.{row_cell}
use Rattle.bed_sat.proofs.CellLaws.{put_cell}
use Rattle.bed_sat.proofs.ConditionLaws.{written-Load, written-LoadByte, written-Store, written-StoreByte, written-Call, written-Return, part-Load, part-LoadByte, part-Store, part-StoreByte, part-Call, part-Return}
use Rattle.bed_sat.proofs.ConditionExamples.{one_function}
use Rattle.bed_sat.proofs.ValidExamples.{emp_is, emp_holds, fact_is, fact_holds}
use Rattle.bed_sat.proofs.RefutedExamples.{not_there, each_is, world_of, claims as claims_alone}

-- ---- assertions of one cell or byte, alone or with a fact

module _ (w : World) (ν : Values) where
  abbrev V : Word → ℕ
  V a = value w.labels ν a

  cell_is : (h : Memory) (a v : Word) → Holds w ν h (asserts (term.Atom (atom.Cell a v) ∷ [])) → IsCell (V a) (V v) h
  cell_is h a v is =
      let t = is.1 in
      let same : h ≡ t.0 = joins_empty (subst (Joins h t.0) t.4 t.2) in
      subst (IsCell (V a) (V v)) (sym same) t.3

  cell_beside : (h : Memory) (a v : Word) (x : Word) (n : ℕ) → IsCell (V a) (V v) h → V x ≡ V (Number n)
      → Holds w ν h (asserts (term.Atom (atom.Cell a v) ∷ term.Pure (pure.Equal x (Number n)) ∷ []))
  cell_beside h a v x n cell same = (0, (h, empty, to_empty h, cell, (empty, empty, to_empty empty, (refl, same), refl)))

  byte_is : (h : Memory) (a v : Word) → Holds w ν h (asserts (term.Atom (atom.Byte a v) ∷ [])) → IsByte (V a) (V v) h
  byte_is h a v is =
      let t = is.1 in
      let same : h ≡ t.0 = joins_empty (subst (Joins h t.0) t.4 t.2) in
      subst (IsByte (V a) (V v)) (sym same) t.3

  byte_beside : (h : Memory) (a v : Word) (x : Word) (n : ℕ) → IsByte (V a) (V v) h → V x ≡ V (Number n)
      → Holds w ν h (asserts (term.Atom (atom.Byte a v) ∷ term.Pure (pure.Equal x (Number n)) ∷ []))
  byte_beside h a v x n byte same = (0, (h, empty, to_empty h, byte, (empty, empty, to_empty empty, (refl, same), refl)))

-- ---- calls

module _ (pre given after post : Assertion) where
  abbrev m : Module
  m = calling_text pre given after post

  abbrev f : Function
  f = calling_body after

  abbrev d : Decls
  d = all_declarations (m ∷ [])

  abbrev calls : Cond
  calls = condition (site_of m f) 10 (Calls (operand.Label (name (codes "g"))) None (operand.Number 7 ∷ []) y after) (path_at_entry (Some (signature [] pre post)))

  abbrev returns : Cond
  returns = condition (site_of m f) 20 (Returns (operand.Local y)) (path_from after)

  two_conditions : conditions m ≡ calls ∷ returns ∷ []
  two_conditions =
      let site : Site = site_of m f in
      one_function m f f.body refl (simp (written-Call, written-Return) refl) ∙ simp (part-Call site, part-Return site) refl

  -- a world that fits: g is at 8, and f at 0
  abbrev code_at : ℕ → Option (List ℕ)
  code_at a = if nat_eq a 8 then Some (codes "G") else Some (codes "S")

  abbrev label_at : List ℕ → ℕ
  label_at x = if bytes_eq (codes "g") x then 8 else 0

  abbrev w : World
  w = record { decls = d; codes = code_at; labels = label_at }

  named : (b c : Bool) (found : Name)
      → second_of (if b then Some (name (codes "g"), name (codes "G")) else (if c then Some (name (codes "f"), name (codes "S")) else None)) ≡ Some found
      → code_at (wrap (if b then 8 else 0)) ≡ Some found.bytes
  named true c found e = ap (λ o. option_map (λ (n : Name). n.bytes) o) e
  named false true found e = ap (λ o. option_map (λ (n : Name). n.bytes) o) e
  named false false found e = let no : ◌≡◌ {A = Option Name} None (Some found) = e in absurd cc

  fits : LabelsFit w
  fits x found e = named (bytes_eq (codes "g") x) (bytes_eq (codes "f") x) found e

  -- what is claimed of the call from emp or from a cell
  abbrev Call : Memory → Type 0
  Call h = CallHolds w (operand.Label (name (codes "g"))) None (operand.Number 7 ∷ []) y after (each_is 0) h

  claims : IsValid d calls → (h : Memory) → Holds w (each_is 0) h pre → Call h
  claims valid h holds = valid.holds code_at label_at fits (each_is 0) h (record { holds = holds; entry = λ e x is. refl })

  callee_is : (h : Memory) (c : Call h) → callee given ≡ c.callee
  callee_is h c =
      let same : name (codes "G") ≡ c.name = some_same c.named in
      some_same (subst (λ (n : Name). signature_named d n.bytes ≡ Some c.callee) (sym same) c.declared)

  -- the callee's precondition, and what follows an answer
  called : (h : Memory) (c : Call h) → Holds w (set_words c.values (name (codes "x") ∷ []) (7 ∷ [])) c.given given
  called h c = subst (λ (C : Signature). Holds w (set_words c.values C.params (7 ∷ [])) c.given C.pre) (sym (callee_is h c)) c.pre

  answered : (h : Memory) (c : Call h) → Holds w (set_local (each_is 0) y 7) c.rest after
  answered h c =
      let μ : Values = set_word (set_words c.values (name (codes "x") ∷ []) (7 ∷ [])) Answer 7 in
      let promised : Holds w μ empty (callee given).post =
      fact_holds w μ 0 empty (pure.Equal (WordVar (var.Answer 0)) (word (codes "x"))) refl (value-Var label_at μ (var.Answer 0) ∙ sym (value-Var label_at μ (var.Named (name (codes "x"))))) in
      c.goes_on 7 empty c.rest (omega arith) (joins_comm (to_empty c.rest))
      (subst (λ (C : Signature). Holds w (set_word (set_words c.values C.params (7 ∷ [])) Answer 7) empty C.post) (callee_is h c) promised)

pub wrong_after_example : WrongAfterExample
wrong_after_example = (
  calls just_emp just_emp is_eight just_emp,
  returns just_emp just_emp is_eight just_emp ∷ [],
  two_conditions just_emp just_emp is_eight just_emp,
  refuted,
)
  where
    refuted : IsValid (d just_emp just_emp is_eight just_emp) (calls just_emp just_emp is_eight just_emp) → ⊥
    refuted valid =
        let world : World = w just_emp just_emp is_eight just_emp in
        let c = claims just_emp just_emp is_eight just_emp valid empty (emp_holds world (each_is 0) 0 empty refl) in
        let μ : Values = set_local (each_is 0) y 7 in
        let is = fact_is world μ 0 c.rest (pure.Equal (word (codes "y")) (Number 8)) (answered just_emp just_emp is_eight just_emp empty c) in
        let same = sym (value-Var world.labels μ (var.Named y)) ∙ is.1 ∙ value-Number world.labels μ 8 in
        omega (arith, same)

pub no_cell_example : NoCellExample
no_cell_example = (
  calls just_emp argument_cell is_seven just_emp,
  returns just_emp argument_cell is_seven just_emp ∷ [],
  two_conditions just_emp argument_cell is_seven just_emp,
  refuted,
)
  where
    refuted : IsValid (d just_emp argument_cell is_seven just_emp) (calls just_emp argument_cell is_seven just_emp) → ⊥
    refuted valid =
        let world : World = w just_emp argument_cell is_seven just_emp in
        let c = claims just_emp argument_cell is_seven just_emp valid empty (emp_holds world (each_is 0) 0 empty refl) in
        let t = (called just_emp argument_cell is_seven just_emp empty c).1.1 in
        let low = four_bytes t.0 _ _ t.3.holds in
        not_there low.low (sym ((joins_left c.parts).at _ _ ((joins_left t.2).at _ _ low.at_low)))

-- the cell of three at 4096
abbrev cell : Memory
cell = bytes_at 4096 (3 ∷ 0 ∷ 0 ∷ 0 ∷ [])

three_there : (w : World) (ν : Values) → Holds w ν cell (asserts (three ∷ []))
three_there w ν =
    let is : IsCell 4096 3 cell = row_cell 4096 3 0 0 0 (omega arith, (omega arith, (omega arith, (omega arith, tt)))) (omega arith) in
    (0, (cell, empty, to_empty cell, subst₂ (λ a v. IsCell a v cell) (sym (value-Number w.labels ν 4096)) (sym (value-Number w.labels ν 3)) is, refl))

pub dropped_cell_example : DroppedCellExample
dropped_cell_example = (
  calls (asserts (three ∷ [])) just_emp is_seven just_emp,
  returns (asserts (three ∷ [])) just_emp is_seven just_emp ∷ [],
  two_conditions (asserts (three ∷ [])) just_emp is_seven just_emp,
  refuted,
)
  where
    refuted : IsValid (d (asserts (three ∷ [])) just_emp is_seven just_emp) (calls (asserts (three ∷ [])) just_emp is_seven just_emp) → ⊥
    refuted valid =
        let world : World = w (asserts (three ∷ [])) just_emp is_seven just_emp in
        let c = claims (asserts (three ∷ [])) just_emp is_seven just_emp valid cell (three_there world (each_is 0)) in
        let given : c.given ≡ empty = emp_is world (set_words c.values (name (codes "x") ∷ []) (7 ∷ [])) 0 c.given (called (asserts (three ∷ [])) just_emp is_seven just_emp cell c) in
        let rest : cell ≡ c.rest = joins_empty (joins_comm (subst (λ g. Joins cell g c.rest) given c.parts)) in
        let μ : Values = set_local (each_is 0) y 7 in
        let is = fact_is world μ 0 c.rest (pure.Equal (word (codes "y")) (Number 7)) (answered (asserts (three ∷ [])) just_emp is_seven just_emp cell c) in
        not_there 3 (ap (λ k. k 4096) (rest ∙ is.0))

-- ---- a call beside a cell

abbrev stays_decls : Decls
stays_decls = d (asserts (three ∷ [])) just_emp seven_beside result_beside

abbrev stays_calls : Cond
stays_calls = calls (asserts (three ∷ [])) just_emp seven_beside result_beside

abbrev stays_returns : Cond
stays_returns = returns (asserts (three ∷ [])) just_emp seven_beside result_beside

-- the cell, under other values
moved : (world : World) (ν μ : Values) (h : Memory) → IsCell (value world.labels ν (Number 4096)) (value world.labels ν (Number 3)) h
    → IsCell (value world.labels μ (Number 4096)) (value world.labels μ (Number 3)) h
moved world ν μ h is =
    subst₂ (λ a v. IsCell a v h) (value-Number world.labels ν 4096 ∙ sym (value-Number world.labels μ 4096)) (value-Number world.labels ν 3 ∙ sym (value-Number world.labels μ 3)) is

calls_valid : IsValid stays_decls stays_calls
calls_valid = record {
  holds = λ code_map labels fit ν h starts.
      let world : World = record { decls = stays_decls; codes = code_map; labels = labels } in
      let x : Name = name (codes "x") in
      let sets : Values = set_words ν (x ∷ []) (7 ∷ []) in
      record {
        name = name (codes "G");
        callee = callee just_emp;
        named = refl;
        declared = refl;
        count = refl;
        code = fit (codes "g") (name (codes "G")) refl;
        values = ν;
        given = empty;
        rest = h;
        parts = joins_comm (to_empty h);
        pre = emp_holds world sets 0 empty refl;
        goes_on = λ answer back whole small joins promised.
            let μ : Values = set_word sets Answer answer in
            let after : Values = set_local ν y answer in
            let was = fact_is world μ 0 back (pure.Equal (WordVar (var.Answer 0)) (WordVar (var.Named x))) promised in
            let seven : wrap answer ≡ 7 = sym (value-Var labels μ (var.Answer 0)) ∙ was.1 ∙ value-Var labels μ (var.Named x) in
            let same : whole ≡ h = joins_empty (joins_comm (subst (λ b. Joins whole b h) was.0 joins)) in
            subst (λ k. Holds world after k seven_beside) (sym same)
            (cell_beside world after h (Number 4096) (Number 3) (word (codes "y")) 7 (moved world ν after h (cell_is world ν h (Number 4096) (Number 3) starts.holds))
            (value-Var labels after (var.Named y) ∙ seven ∙ sym (value-Number labels after 7)));
      };
}

returns_valid : IsValid stays_decls stays_returns
returns_valid = record {
  holds = λ code_map labels fit ν h starts.
      let world : World = record { decls = stays_decls; codes = code_map; labels = labels } in
      let μ : Values = set_word ν Answer (wrap (ν.words (Named (codes "y")))) in
      let t = starts.holds.1 in
      let u = t.4 in
      let nothing : t.1 ≡ empty = joins_empty (subst (Joins t.1 u.0) u.4 u.2) ∙ u.3.0 in
      let same : h ≡ t.0 = joins_empty (subst (Joins h t.0) nothing t.2) in
      let seven : wrap (ν.words (Named (codes "y"))) ≡ 7 = sym (value-Var labels ν (var.Named y)) ∙ u.3.1 ∙ value-Number labels ν 7 in
      cell_beside world μ h (Number 4096) (Number 3) (WordVar (var.Answer 0)) 7 (moved world ν μ h (subst (IsCell (value labels ν (Number 4096)) (value labels ν (Number 3))) (sym same) t.3))
      (value-Var labels μ (var.Answer 0) ∙ ap wrap seven ∙ sym (value-Number labels μ 7));
}

pub cell_stays_example : CellStaysExample
cell_stays_example =
    let P : Cond → Type 0 = IsValid stays_decls in
    subst (All P) (sym (two_conditions (asserts (three ∷ [])) just_emp seven_beside result_beside))
    (All-cons P stays_calls (stays_returns ∷ []) calls_valid (All-cons P stays_returns [] returns_valid (All-nil P)))

pub unknown_target_example : UnknownTargetExample
unknown_target_example ν h c = no_code c.code
  where
    no_code : {o : List ℕ} → ◌≡◌ {A = Option (List ℕ)} None (Some o) → ⊥
    no_code e = cc

-- ---- stores and loads

abbrev p : Name
p = name (codes "p")

abbrev stores : Cond
stores = condition (site_of storing_module storing_function) 30 (Returns (operand.Local y))
    (then_action (action.Load y (field_at p 4)) (then_action (action.Store (field_at p 4) (operand.Number 7)) (path_at_entry (Some (signature (p ∷ []) some_field seven_stored)))))

storing_conditions : conditions storing_module ≡ stores ∷ []
storing_conditions =
    let site : Site = site_of storing_module storing_function in
    one_function storing_module storing_function storing_function.body refl (simp (written-Store, written-Load, written-Return) refl)
    ∙ simp (part-Store site, part-Load site, part-Return site) refl

field_is : (labels : List ℕ → ℕ) (ν : Values) → value labels ν field ≡ wrap (wrap (ν.words (Named (codes "p"))) + 4)
field_is labels ν =
    value-Add labels ν (word (codes "p")) (Number 4) ∙ ap₂ (λ a b. wrap (a + b)) (value-Var labels ν (var.Named p)) (value-Number labels ν 4)

stores_valid : IsValid (all_declarations (storing_module ∷ [])) stores
stores_valid = record {
  holds = λ code_map labels fit ν h starts.
      let world : World = record { decls = all_declarations (storing_module ∷ []); codes = code_map; labels = labels } in
      let a : ℕ = wrap (wrap (ν.words (Named (codes "p"))) + 4) in
      let μ : Values = set_word ν (Named (codes "v")) starts.holds.1.0 in
      let old : ℕ = value labels μ (word (codes "v")) in
      let there : IsCell a old h = subst (λ x. IsCell x old h) (field_is labels μ) (cell_is world μ h field (word (codes "v")) (starts.holds.0, starts.holds.1.1)) in
      let stored : IsCell a 7 (put_word h a 7) = put_cell a old 7 there (omega arith) in
      let final : Values = set_word (set_words (set_local ν y 7) (p ∷ []) (ν.words (Old (codes "p")) ∷ [])) Answer 7 in
      let same : wrap (ν.words (Named (codes "p"))) ≡ wrap (ν.words (Old (codes "p"))) = starts.entry refl p (0, omega arith, refl) in
      let place : a ≡ value labels final field = ap (λ x. wrap (x + 4)) same ∙ sym (field_is labels final) in (
        subst (λ o. IsSome o) (sym there.holds) refl,
        (
          7,
          stored.holds,
          cell_beside world final (put_word h a 7) field (Number 7) (WordVar (var.Answer 0)) 7
              (subst₂ (λ x v. IsCell x v (put_word h a 7)) place (sym (value-Number labels final 7)) stored)
              (value-Var labels final (var.Answer 0) ∙ sym (value-Number labels final 7)),
        ),
      );
}

pub storing_example : StoringExample
storing_example =
    let P : Cond → Type 0 = IsValid (all_declarations (storing_module ∷ [])) in
    subst (All P) (sym storing_conditions) (All-cons P stores [] stores_valid (All-nil P))

abbrev stores_byte : Cond
stores_byte = condition (site_of byte_module byte_function) 30 (Returns (operand.Local y))
    (then_action (action.LoadByte y (field_at p 0)) (then_action (action.StoreByte (field_at p 0) (operand.Number 263)) (path_at_entry (Some (signature (p ∷ []) some_byte seven_byte)))))

byte_conditions : conditions byte_module ≡ stores_byte ∷ []
byte_conditions =
    let site : Site = site_of byte_module byte_function in
    one_function byte_module byte_function byte_function.body refl (simp (written-StoreByte, written-LoadByte, written-Return) refl)
    ∙ simp (part-StoreByte site, part-LoadByte site, part-Return site) refl

put_one : (a old : ℕ) (h : Memory) → IsByte a old h → IsByte a 7 (put_byte h a 263)
put_one a old h is = record { holds = put_byte_same h a 263; only = λ x b e. elim (put_byte_gives h a 263 x b e) [ inl new ↦ new | inr was ↦ is.only x b was ] }

p_is : (labels : List ℕ → ℕ) (ν : Values) → value labels ν (word (codes "p")) ≡ wrap (wrap (ν.words (Named (codes "p"))) + 0)
p_is labels ν = value-Var labels ν (var.Named p) ∙ (omega arith)

stores_byte_valid : IsValid (all_declarations (byte_module ∷ [])) stores_byte
stores_byte_valid = record {
  holds = λ code_map labels fit ν h starts.
      let world : World = record { decls = all_declarations (byte_module ∷ []); codes = code_map; labels = labels } in
      let a : ℕ = wrap (wrap (ν.words (Named (codes "p"))) + 0) in
      let μ : Values = set_word ν (Named (codes "v")) starts.holds.1.0 in
      let old : ℕ = value labels μ (word (codes "v")) in
      let there : IsByte a old h = subst (λ x. IsByte x old h) (p_is labels μ) (byte_is world μ h (word (codes "p")) (word (codes "v")) (starts.holds.0, starts.holds.1.1)) in
      let stored : IsByte a 7 (put_byte h a 263) = put_one a old h there in
      let final : Values = set_word (set_words (set_local ν y 7) (p ∷ []) (ν.words (Old (codes "p")) ∷ [])) Answer 7 in
      let same : wrap (ν.words (Named (codes "p"))) ≡ wrap (ν.words (Old (codes "p"))) = starts.entry refl p (0, omega arith, refl) in
      let place : a ≡ value labels final (word (codes "p")) = ap (λ x. wrap (x + 0)) same ∙ sym (p_is labels final) in (
        subst (λ o. IsSome o) (sym there.holds) refl,
        (
          7,
          stored.holds,
          byte_beside world final (put_byte h a 263) (word (codes "p")) (Number 7) (WordVar (var.Answer 0)) 7
              (subst₂ (λ x v. IsByte x v (put_byte h a 263)) place (sym (value-Number labels final 7)) stored)
              (value-Var labels final (var.Answer 0) ∙ sym (value-Number labels final 7)),
        ),
      );
}

pub byte_example : ByteExample
byte_example =
    let P : Cond → Type 0 = IsValid (all_declarations (byte_module ∷ [])) in
    subst (All P) (sym byte_conditions) (All-cons P stores_byte [] stores_byte_valid (All-nil P))

abbrev stores_nowhere : Cond
stores_nowhere = condition (site_of unmapped_module unmapped_function) 20 (Returns (operand.Number 0))
    (then_action (action.Store (record { base = operand.Number 4096; disp = 0 }) (operand.Number 3)) (path_at_entry (Some (signature [] just_emp (asserts (three ∷ []))))))

unmapped_conditions : conditions unmapped_module ≡ stores_nowhere ∷ []
unmapped_conditions =
    let site : Site = site_of unmapped_module unmapped_function in
    one_function unmapped_module unmapped_function unmapped_function.body refl (simp (written-Store, written-Return) refl) ∙ simp (part-Store site, part-Return site) refl

unmapped_refuted : IsValid (all_declarations (unmapped_module ∷ [])) stores_nowhere → ⊥
unmapped_refuted valid =
    let stored = claims_alone [] just_emp (asserts (three ∷ [])) [] unmapped_function.body stores_nowhere refl valid (each_is 0) empty
    (record { holds = emp_holds (world_of (signature [] just_emp (asserts (three ∷ []))) unmapped_function) (each_is 0) 0 empty refl; entry = λ e x is. refl }) in
    let no : ◌≡◌ {A = Bool} false true = stored.0 in
    cc

pub unmapped_store_example : UnmappedStoreExample
unmapped_store_example = (stores_nowhere, unmapped_conditions, unmapped_refuted)
