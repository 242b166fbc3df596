-- Code put function after function.
use Rattle.std.proofs.Common.{◌≡◌, ℕ, zero, suc, ◌+◌, ◌%◌, ◌<◌, List, [], ◌∷◌, ◌++◌, map, drop, get_or, length, Contains, sym, ◌∙◌, ap, ap₂, subst, arith, append_assoc}
use Rattle.std.proofs.lemmas.List.Elements.{Contains-append_left, Contains-append_right}
use Rattle.bed_lang.specs.Numbers.{wrap}
use Rattle.bed_il.specs.declared.blocks.Block.{Block}
use Rattle.bed_il.specs.Places.{blocks_size}
use Rattle.bed_layout.specs.Functions.{function_bytes, code_bytes}
use Rattle.bed_layout.specs.Layered.{functions_in, total_size}
use Rattle.bed_layout.proofs.WrapLemmas.{code_wraps}
use Rattle.bed_layout.proofs.FunctionLemmas.{cons_at}

module _ (a : List ℕ → ℕ) where
  code_append : (Bs Cs : List (List Block)) (at : ℕ) → code_bytes a (Bs ++ Cs) at ≡ code_bytes a Bs at ++ code_bytes a Cs (at + total_size Bs)
  code_append [] Cs at = let e : at ≡ at + 0 = omega arith in ap (code_bytes a Cs) e
  code_append (B ∷ Bs) Cs at =
      let e : at + blocks_size B + total_size Bs ≡ at + (blocks_size B + total_size Bs) = omega arith in
      ap (λ l. function_bytes a B at ++ l) (code_append Bs Cs (at + blocks_size B) ∙ ap (λ x. code_bytes a Bs (at + blocks_size B) ++ code_bytes a Cs x) e)
      ∙ sym (append_assoc (function_bytes a B at) (code_bytes a Bs (at + blocks_size B)) (code_bytes a Cs (at + (blocks_size B + total_size Bs))))

  -- one function more
  pub code_step : (Bs : List (List Block)) (k : ℕ) (B : List Block) (next size after : ℕ) (out piece new all : List ℕ) → k < length Bs → B ≡ get_or Bs k B → size ≡ wrap (blocks_size B) → after ≡ (next + size) % 4294967296
      → out ++ code_bytes a (drop k Bs) next ≡ all → new ≡ out ++ piece → piece ≡ function_bytes a B next → new ++ code_bytes a (drop (k + 1) Bs) after ≡ all
  code_step Bs k B next size after out piece new all lt is size_is after_is before put piece_is =
      let rest : List ℕ = code_bytes a (drop (k + 1) Bs) (next + blocks_size B) in
      ap₂ (λ l r. l ++ r) (put ∙ ap (λ l. out ++ l) piece_is) (code_wraps a (drop (k + 1) Bs) after (next + blocks_size B) (omega arith))
      ∙ append_assoc out (function_bytes a B next) rest
      ∙ sym (ap (λ l. out ++ code_bytes a l next) (cons_at Bs k B lt is)) ∙ before

  -- the functions of one item more
  pub module_step : {M : Type 0} (each : M → List (List Block)) (code : List M) (k : ℕ) (m : M) (functions : List (List Block)) (next after : ℕ) (out new all : List ℕ) → k < length code → m ≡ get_or code k m → functions ≡ each m
      → wrap after ≡ wrap (next + total_size functions) → out ++ code_bytes a (functions_in (map each (drop k code))) next ≡ all → new ≡ out ++ code_bytes a functions next
      → new ++ code_bytes a (functions_in (map each (drop (k + 1) code))) after ≡ all
  module_step each code k m functions next after out new all lt is here after_is before put =
      let rest : List (List Block) = functions_in (map each (drop (k + 1) code)) in
      let cons : functions_in (map each (drop k code)) ≡ functions ++ rest = ap (λ l. functions_in (map each l)) (cons_at code k m lt is) ∙ ap (λ l. l ++ rest) (sym here) in
      ap₂ (λ l r. l ++ r) put (code_wraps a rest after (next + total_size functions) after_is)
      ∙ append_assoc out (code_bytes a functions next) (code_bytes a rest (next + total_size functions))
      ∙ sym (ap (λ l. out ++ l) (ap (λ l. code_bytes a l next) cons ∙ code_append functions rest next)) ∙ before

pub end_step : (Bs : List (List Block)) (k : ℕ) (B : List Block) (next size after all : ℕ) → k < length Bs → B ≡ get_or Bs k B → size ≡ wrap (blocks_size B) → after ≡ (next + size) % 4294967296
    → wrap (next + total_size (drop k Bs)) ≡ wrap all → wrap (after + total_size (drop (k + 1) Bs)) ≡ wrap all
end_step Bs k B next size after all lt is size_is after_is before =
    let e : total_size (drop k Bs) ≡ blocks_size B + total_size (drop (k + 1) Bs) = ap total_size (cons_at Bs k B lt is) in
    omega arith

-- the functions of an item are among all
pub among_all : {M : Type 0} (each : M → List (List Block)) (code : List M) (k : ℕ) (m : M) (B : List Block) → k < length code → m ≡ get_or code k m → Contains (each m) B → Contains (functions_in (map each code)) B
among_all each [] k m B lt is there = absurd (omega arith)
among_all each (n ∷ code) zero m B lt is there = Contains-append_left (each n) (functions_in (map each code)) B (subst (λ x. Contains (each x) B) is there)
among_all each (n ∷ code) (suc k) m B lt is there = Contains-append_right (each n) (functions_in (map each code)) B (among_all each code k m B (omega arith) is there)
