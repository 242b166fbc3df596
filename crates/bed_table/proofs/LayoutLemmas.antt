-- The layout, module by module.
use Rattle.std.proofs.Common.{◌≡◌, ℕ, suc, ◌+◌, ◌<◌, ◌-◌, ◌^◌, min, List, [], ◌∷◌, ◌++◌, map, length, drop, get_or, refl, sym, ◌∙◌, ap, arith, add-one, drop-cons, if◌then◌else◌, ◌||◌}
use Rattle.bed_lang.specs.declared.word.Name.{Name}
use Rattle.bed_lang.specs.declared.module.Signature.{Signature}
use Rattle.bed_lang.specs.declared.module.Function.{Function}
use Rattle.bed_lang.specs.declared.module.Import.{Import}
use Rattle.bed_lang.specs.declared.module.Module.{Module}
use Rattle.bed_table.specs.Code.{function_piece}
use Rattle.bed_table.specs.Layout.{Defined, define, defined_in, all_defined, total_size, sum_of_sizes, code_length, imported, outside_names, exports, is_among}

-- the items from a number on are the one of that number and those behind it
split : {A : Type 0} (xs : List A) (i : ℕ) (x : A) → i < length xs → x ≡ get_or xs i x → drop i xs ≡ x ∷ drop (i + 1) xs
split xs i x lt is = rw add-one (drop-cons xs i x lt ∙ ap (λ y. y ∷ drop (suc i) xs) (sym is))

pub total_size-append : (xs ys : List Defined) → total_size (xs ++ ys) ≡ total_size xs + total_size ys
total_size-append [] ys = omega arith
total_size-append (x ∷ xs) ys = omega (arith, total_size-append xs ys)

pub total_size-define : (signatures : List Signature) (fs : List Function) → total_size (map (define signatures) fs) ≡ sum_of_sizes fs
total_size-define signatures [] = refl
total_size-define signatures (f ∷ fs) = ap (λ n. (function_piece f).size + n) (total_size-define signatures fs)

pub code_length-cons : (m : Module) (ms : List Module) → code_length (m ∷ ms) ≡ sum_of_sizes m.functions + code_length ms
code_length-cons m ms = total_size-append (defined_in m) (all_defined ms) ∙ ap (λ n. n + code_length ms) (total_size-define m.signatures m.functions)

-- one more module's functions
pub length_step : (modules : List Module) (i : ℕ) (m : Module) (fs : List Function) (size next whole : ℕ) → i < length modules → m ≡ get_or modules i m
    → fs ≡ m.functions
    → (size < 2 ^ 64) × (min (size + code_length (drop i modules)) (2 ^ 64 - 1) ≡ min whole (2 ^ 64 - 1))
    → next ≡ min (size + sum_of_sizes fs) (2 ^ 64 - 1)
    → (next < 2 ^ 64) × (min (next + code_length (drop (i + 1) modules)) (2 ^ 64 - 1) ≡ min whole (2 ^ 64 - 1))
length_step modules i m fs size next whole lt is fe h e =
    let parts : code_length (drop i modules) ≡ sum_of_sizes fs + code_length (drop (i + 1) modules) =
    ap code_length (split modules i m lt is) ∙ code_length-cons m (drop (i + 1) modules)
    ∙ ap (λ f. sum_of_sizes f + code_length (drop (i + 1) modules)) (sym fe) in
    let before = h.1 in
    (omega arith, omega (arith, parts, before, e))

pub outside_names-append : (functions : List Defined) (seen xs ys : List Name)
    → outside_names functions seen (xs ++ ys) ≡ outside_names functions (outside_names functions seen xs) ys
outside_names-append functions seen [] ys = refl
outside_names-append functions seen (x ∷ xs) ys =
    outside_names-append functions (if exports functions x.bytes || is_among seen x.bytes then seen else (seen ++ x ∷ [])) xs ys

-- one more module's imports
pub outside_step : (functions : List Defined) (modules : List Module) (i : ℕ) (m : Module) (imports : List Import) (seen next whole : List Name)
    → i < length modules → m ≡ get_or modules i m → imports ≡ m.imports
    → outside_names functions seen (imported (drop i modules)) ≡ whole
    → next ≡ outside_names functions seen (map (λ i. i.name) imports)
    → outside_names functions next (imported (drop (i + 1) modules)) ≡ whole
outside_step functions modules i m imports seen next whole lt is ie h e =
    let rest = imported (drop (i + 1) modules) in
    ap (λ s. outside_names functions s rest) (e ∙ ap (λ l. outside_names functions seen (map (λ i. i.name) l)) ie)
    ∙ sym (outside_names-append functions seen (map (λ i. i.name) m.imports) rest)
    ∙ ap (λ l. outside_names functions seen (imported l)) (sym (split modules i m lt is)) ∙ h
