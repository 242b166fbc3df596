-- The code of one module of functions that only return a value is the code of such functions, and so it is sound.
use Rattle.std.proofs.Common.{◌≡◌, ℕ, ◌+◌, ◌*◌, ◌≤◌, Bool, true, false, Option, Some, List, [], ◌∷◌, ◌++◌, map, length, bytes_eq, refl, sym, ◌∙◌, ap, subst, arith, append-nil}
use Rattle.bed_lang.specs.declared.word.Name.{Name}
use Rattle.bed_lang.specs.declared.module.Operand.{Operand}
use Rattle.bed_lang.specs.declared.module.Signature.{Signature}
use Rattle.bed_lang.specs.declared.module.Function.{Function}
use Rattle.bed_lang.specs.declared.module.Module.{Module}
use Rattle.bed_lang.specs.declared.statement.Stmt.{Stmt}
use Rattle.bed_lang.specs.declared.statement.StmtKind.{Return}
use Rattle.bed_lang.specs.Lookups.{first_signature}
use Rattle.bed_table.specs.Pieces.{Piece, sequence}
use Rattle.bed_table.specs.CodeTable.{entry, answer}
use Rattle.bed_table.specs.Code.{body_piece, params_of, locals_of, function_piece}
use Rattle.bed_table.specs.Layout.{define, Placed, placed_from, total_size, code_of, code_length}
use Rattle.bed_table.proofs.CodeLemmas.{piece-kind}
use Rattle.bed_table.proofs.ReturnLaws.{piece-Return}
use Rattle.bed_table.proofs.SizeLaws.{code_is_sized}
use Rattle.bed_sat.specs.Sound.{FunctionAt, IsSound}
use Rattle.bed_sat.specs.Returns.{ReturnValue, OfNumber, OfArgument, return_code, AreReturns}
use Rattle.bed_sat.specs.Linking.{with_function, functions_at, loops_at, linked}
use Rattle.bed_sat.specs.ReturnModules.{OperandSays, IsReturnFunction, AreReturnFunctions}
use Rattle.bed_sat.proofs.ReturnLaws.{return_program_sound}

-- the parameters of the first signature of a name
params_found : (signatures : List Signature) (name : List ℕ) (S : Signature) → first_signature signatures name ≡ Some S → params_of signatures name ≡ S.params
params_found [] name S e = absurd (cc)
params_found (T ∷ Ts) name S e = by_test (bytes_eq T.name.bytes name) refl (params_found Ts name S)
  where
    by_test : (b : Bool) → bytes_eq T.name.bytes name ≡ b → (first_signature Ts name ≡ Some S → params_of Ts name ≡ S.params)
        → params_of (T ∷ Ts) name ≡ S.params
    by_test true t later = let here : first_signature (T ∷ Ts) name ≡ Some T = rw t refl in let same : T ≡ S = cc in rw t (ap (λ U. U.params) same)
    by_test false t later = let there : first_signature (T ∷ Ts) name ≡ first_signature Ts name = rw t refl in rw t (later (sym there ∙ e))

-- the bytes of such a function, wherever it stands
returned_bytes : (locals : List Name) (labels : List ℕ → ℕ) (at : ℕ) (a : Operand) (v : ReturnValue) → OperandSays locals a v
    → (sequence (entry ∷ sequence (answer a ∷ []) ∷ [])).bytes locals labels at ≡ return_code v
returned_bytes locals labels at a (OfNumber n) e = subst (λ b. (sequence (entry ∷ sequence (answer b ∷ []) ∷ [])).bytes locals labels at ≡ return_code (OfNumber n)) (sym e) refl
returned_bytes locals labels at a (OfArgument i) (x, e, number) =
    subst (λ b. (sequence (entry ∷ sequence (answer b ∷ []) ∷ [])).bytes locals labels at ≡ return_code (OfArgument i)) (sym e) (rw number refl)

returned_size : (a : Operand) (v : ReturnValue) (locals : List Name) → OperandSays locals a v
    → (sequence (entry ∷ sequence (answer a ∷ []) ∷ [])).size ≡ length (return_code v)
returned_size a (OfNumber n) locals e = subst (λ b. (sequence (entry ∷ sequence (answer b ∷ []) ∷ [])).size ≡ length (return_code (OfNumber n))) (sym e) refl
returned_size a (OfArgument i) locals (x, e, number) = subst (λ b. (sequence (entry ∷ sequence (answer b ∷ []) ∷ [])).size ≡ length (return_code (OfArgument i))) (sym e) refl

module _ (signatures : List Signature) (f : Function) (is : IsReturnFunction signatures f) where
  piece_is : function_piece f ≡ sequence (entry ∷ sequence (answer is.returned ∷ []) ∷ [])
  piece_is =
      ap (λ (body : List Stmt). sequence (entry ∷ body_piece body ∷ [])) is.body
      ∙ ap (λ (p : Piece). sequence (entry ∷ sequence (p ∷ []) ∷ [])) (piece-kind (record { at = is.place; kind = Return is.returned }) ∙ piece-Return is.returned)

  locals_are : locals_of signatures f ≡ is.signature.params
  locals_are =
      ap (λ (more : List Name). params_of signatures f.signature.bytes ++ more) is.locals
      ∙ (append-nil (params_of signatures f.signature.bytes) ∙ params_found signatures f.signature.bytes is.signature is.found)

  bytes_are : (labels : List ℕ → ℕ) (at : ℕ) → (function_piece f).bytes (locals_of signatures f) labels at ≡ return_code is.value
  bytes_are labels at =
      ap (λ (p : Piece). p.bytes (locals_of signatures f) labels at) piece_is
      ∙ (ap (λ (ls : List Name). (sequence (entry ∷ sequence (answer is.returned ∷ []) ∷ [])).bytes ls labels at) locals_are
      ∙ returned_bytes is.signature.params labels at is.returned is.value is.says)

  size_is : (function_piece f).size ≡ length (return_code is.value)
  size_is = ap (λ (p : Piece). p.size) piece_is ∙ returned_size is.returned is.value is.signature.params is.says

  no_heads : (at : ℕ) → (function_piece f).heads at ≡ []
  no_heads at = ap (λ (p : Piece). p.heads at) piece_is

  -- the length of its code is at most 22
  pub short : (function_piece f).size ≤ 22
  short = by_value is.value (size_is)
    where
      by_value : (v : ReturnValue) → (function_piece f).size ≡ length (return_code v) → (function_piece f).size ≤ 22
      by_value (OfNumber n) e = omega (arith, e)
      by_value (OfArgument i) e = omega (arith, e)

-- the functions of a module, from an address on
laid : (signatures : List Signature) (labels : List ℕ → ℕ) (at : ℕ) (fs : List Function) → AreReturnFunctions signatures fs
    → AreReturns at (functions_at signatures (placed_from at (map (define signatures) fs))) (code_of labels (placed_from at (map (define signatures) fs)))
laid signatures labels at [] all = refl
laid signatures labels at (f ∷ fs) (is, all) =
    subst (λ (o : Option Signature). AreReturns at (with_function o here rest_functions) whole) (sym is.found) (
      is.value,
      others,
      refl,
      ap (λ (bytes : List ℕ). bytes ++ others) (bytes_are signatures f is labels at),
      is.promises,
      subst (λ (n : ℕ). AreReturns (at + n) rest_functions others) (size_is signatures f is) (laid signatures labels (at + (function_piece f).size) fs all),
    )
  where
    here : Placed
    here = record { defined = define signatures f; address = at }

    rest : List Placed
    rest = placed_from (at + (function_piece f).size) (map (define signatures) fs)

    rest_functions : List FunctionAt
    rest_functions = functions_at signatures rest

    others : List ℕ
    others = code_of labels rest

    whole : List ℕ
    whole = (function_piece f).bytes (locals_of signatures f) labels at ++ others

no_loops : (signatures : List Signature) (at : ℕ) (fs : List Function) → AreReturnFunctions signatures fs
    → loops_at signatures (placed_from at (map (define signatures) fs)) ≡ []
no_loops signatures at [] all = refl
no_loops signatures at (f ∷ fs) (is, all) =
    rw (is.found, no_heads signatures f is at, no_loops signatures (at + (function_piece f).size) fs all) refl

-- the code of a module of such functions is sound
pub return_module_sound : (m : Module) (base : ℕ) (imports : List (Name × ℕ)) → AreReturnFunctions m.signatures m.functions
    → base + code_length (m ∷ []) ≤ 4294967296 → IsSound (linked (m ∷ []) base imports)
return_module_sound m base imports all fits = return_program_sound (linked (m ∷ []) base imports) (record {
  fits = omega (arith, code_is_sized (m ∷ []) base imports);
  laid =
      rw (append-nil m.signatures, append-nil (map (define m.signatures) m.functions))
      (laid m.signatures _ base m.functions all);
  no_loops =
      rw (append-nil m.signatures, append-nil (map (define m.signatures) m.functions))
      (no_loops m.signatures base m.functions all);
})

-- the length of the code of such functions
pub return_functions_short : (signatures : List Signature) (fs : List Function) → AreReturnFunctions signatures fs
    → total_size (map (define signatures) fs) ≤ 22 * length fs
return_functions_short signatures [] all = omega arith
return_functions_short signatures (f ∷ fs) (is, all) = omega (arith, short signatures f is, return_functions_short signatures fs all)

pub return_module_short : (m : Module) → AreReturnFunctions m.signatures m.functions → code_length (m ∷ []) ≤ 22 * length m.functions
return_module_short m all = rw (append-nil (map (define m.signatures) m.functions)) (return_functions_short m.signatures m.functions all)
