-- One more function of a layout, and the parts of an image.
use Rattle.std.proofs.Common.{◌≡◌, ℕ, suc, ◌+◌, ◌/◌, ◌%◌, ◌<◌, ◌≤◌, List, [], ◌∷◌, ◌++◌, map, length, drop, get_or, refl, sym, ◌∙◌, ap, ap₂, arith, append_assoc, length-append, add-one, drop-cons, codes}
use Rattle.bed_lang.specs.declared.word.Name.{Name}
use Rattle.bed_lang.specs.declared.module.Module.{Module}
use Rattle.bed_lang.specs.Numbers.{wrap, word_bytes}
use Rattle.bed_table.specs.declared.layout.Item.{Item}
use Rattle.bed_table.specs.declared.symbols.SymbolTable.{SymbolTable}
use Rattle.bed_table.specs.Code.{function_piece}
use Rattle.bed_table.specs.Layout.{Defined, Placed, Label, placed_from, placed, all_defined, total_size, code_length, code_of, code, address_of, all_labels, label_address, function_label, import_label, imported, outside_names, outside_imports}
use Rattle.bed_table.specs.Image.{Symbol, symbol_bytes, table_bytes, function_symbols, symbols_of, import_symbols, symbols, image}
use Rattle.bed_table.specs.Seen.{defined_of, Adds, IsTable}

pub table_bytes-append : (xs ys : List Symbol) → table_bytes (xs ++ ys) ≡ table_bytes xs ++ table_bytes ys
table_bytes-append [] ys = refl
table_bytes-append (x ∷ xs) ys = ap (λ l. symbol_bytes x ++ l) (table_bytes-append xs ys) ∙ sym (append_assoc (symbol_bytes x) (table_bytes xs) (table_bytes ys))

-- two numbers that agree modulo 2^32 have the same bytes
pub word_bytes-wrap : (a b : ℕ) → wrap a ≡ wrap b → word_bytes a ≡ word_bytes b
word_bytes-wrap a b e =
    let e0 : a % 256 ≡ b % 256 = omega arith in
    let e1 : a / 256 % 256 ≡ b / 256 % 256 = omega arith in
    let e2 : a / 65536 % 256 ≡ b / 65536 % 256 = omega arith in
    let e3 : a / 16777216 % 256 ≡ b / 16777216 % 256 = omega arith in
    ap₂ (λ x y. x ∷ (y ∷ ((a / 65536 % 256) ∷ ((a / 16777216 % 256) ∷ [])))) e0 e1
    ∙ ap₂ (λ x y. (b % 256) ∷ ((b / 256 % 256) ∷ (x ∷ (y ∷ [])))) e2 e3

module _ (items : List Item) (i : ℕ) (item : Item) (at size : ℕ) (lt : i < length items) (is : item ≡ get_or items i item)
    (e : size ≡ (function_piece item.function.now).size) where
  abbrev rest : List Defined
  rest = map defined_of (drop (i + 1) items)

  parts : map defined_of (drop i items) ≡ defined_of item ∷ rest
  parts = rw add-one (ap (map defined_of) (drop-cons items i item lt) ∙ ap (λ x. defined_of x ∷ map defined_of (drop (suc i) items)) (sym is))

  abbrev first : Placed
  first = record { defined = defined_of item; address = at }

  places : placed_from at (map defined_of (drop i items)) ≡ first ∷ placed_from (at + size) rest
  places = ap (placed_from at) parts ∙ ap (λ n. first ∷ placed_from (at + n) rest) (sym e)

  pub within_step : at + total_size (map defined_of (drop i items)) ≤ 4294967296 → at + size + total_size rest ≤ 4294967296
  within_step h = let p = ap total_size parts in omega (arith, p, e)

  pub code_step : (labels : List ℕ → ℕ) (o next whole : List ℕ)
      → o ++ code_of labels (placed_from at (map defined_of (drop i items))) ≡ whole
      → next ≡ o ++ (function_piece item.function.now).bytes (defined_of item).locals labels at
      → next ++ code_of labels (placed_from (at + size) rest) ≡ whole
  code_step labels o next whole h a =
      let more = code_of labels (placed_from (at + size) rest) in
      ap (λ l. l ++ more) a ∙ append_assoc o ((function_piece item.function.now).bytes (defined_of item).locals labels at) more
      ∙ ap (λ l. o ++ code_of labels l) (sym places) ∙ h

  module _ (old next : SymbolTable) (a : Adds old next (function_symbols first)) where
    pub bytes_step : (whole : List ℕ)
        → old.bytes.items ++ table_bytes (symbols_of (placed_from at (map defined_of (drop i items)))) ≡ whole
        → next.bytes.items ++ table_bytes (symbols_of (placed_from (at + size) rest)) ≡ whole
    bytes_step whole h =
        let more = symbols_of (placed_from (at + size) rest) in
        ap (λ l. l ++ table_bytes more) a.bytes_are ∙ append_assoc old.bytes.items (table_bytes (function_symbols first)) (table_bytes more)
        ∙ ap (λ l. old.bytes.items ++ l) (sym (table_bytes-append (function_symbols first) more) ∙ ap (λ l. table_bytes (symbols_of l)) (sym places)) ∙ h

    pub count_step : (n : ℕ)
        → wrap (old.count + length (symbols_of (placed_from at (map defined_of (drop i items))))) ≡ n
        → wrap (next.count + length (symbols_of (placed_from (at + size) rest))) ≡ n
    count_step n h =
        let more : List Symbol = symbols_of (placed_from (at + size) rest) in
        let own : List Symbol = function_symbols first in
        let all : length (symbols_of (placed_from at (map defined_of (drop i items)))) ≡ length own + length more =
        ap (λ l. length (symbols_of l)) places ∙ length-append own more in
        let c = a.count_is in
        count_sum old.count next.count (length own) (length more) _ n all c h
      where
        count_sum : (o x f m t n : ℕ) → t ≡ f + m → wrap x ≡ wrap (o + f) → wrap (o + t) ≡ n → wrap (x + m) ≡ n
        count_sum o x f m t n te c h = omega arith

-- two lists of symbols after one another, in a table that was empty
pub table_made : (s t : List Symbol) (t0 t1 t2 : SymbolTable) → t0.bytes.items ≡ [] → t0.count ≡ 0 → Adds t0 t1 s → Adds t1 t2 t → IsTable (s ++ t) t2
table_made s t t0 t1 t2 empty none a b = record {
  bytes_are = b.bytes_are ∙ ap (λ l. l ++ table_bytes t) (a.bytes_are ∙ ap (λ l. l ++ table_bytes s) empty) ∙ sym (table_bytes-append s t);
  count_is = sum t0.count t1.count t2.count (length s) (length t) (length (s ++ t)) none a.count_is b.count_is (length-append s t);
}
  where
    sum : (n0 n1 n2 a b c : ℕ) → n0 ≡ 0 → wrap n1 ≡ wrap (n0 + a) → wrap n2 ≡ wrap (n1 + b) → c ≡ a + b → wrap n2 ≡ wrap c
    sum n0 n1 n2 a b c e0 e1 e2 e3 = omega arith

-- an image from its parts
pub image_made : (modules : List Module) (base : ℕ) (imports : List (Name × ℕ)) (ds : List Defined) (ls : List Label) (names : List Name)
    (t : SymbolTable) (size : ℕ) (o0 o1 o2 o3 : List ℕ)
    → ds ≡ all_defined modules
    → ls ≡ map function_label (placed_from base ds) ++ map import_label imports
    → names ≡ outside_names ds [] (imported modules)
    → IsTable (symbols_of (placed_from base ds) ++ import_symbols (address_of ls) names) t
    → size ≡ code_length modules
    → o0 ≡ []
    → o1 ≡ o0 ++ (codes "BIM1" ++ (word_bytes base ++ (word_bytes size ++ word_bytes t.count)))
    → o2 ≡ o1 ++ t.bytes.items
    → o3 ≡ o2 ++ code_of (address_of ls) (placed_from base ds)
    → o3 ≡ image modules base imports
image_made modules base imports ds ls names t size o0 o1 o2 o3 eds els en it es e0 e1 e2 e3 =
    let placed_is : placed_from base ds ≡ placed modules base = ap (placed_from base) eds in
    let labels_are : ls ≡ all_labels modules base imports = els ∙ ap (λ l. map function_label l ++ map import_label imports) placed_is in
    let names_are : names ≡ outside_imports modules = en ∙ ap (λ d. outside_names d [] (imported modules)) eds in
    let symbols_are : symbols_of (placed_from base ds) ++ import_symbols (address_of ls) names ≡ symbols modules base imports =
    ap₂ (λ a b. symbols_of a ++ import_symbols (address_of b) names) placed_is labels_are
    ∙ ap (λ n. symbols_of (placed modules base) ++ import_symbols (label_address modules base imports) n) names_are in
    let code_is : code_of (address_of ls) (placed_from base ds) ≡ code modules base imports =
    ap₂ (λ a b. code_of (address_of a) b) labels_are placed_is in
    let count_is : word_bytes t.count ≡ word_bytes (length (symbols modules base imports)) =
    word_bytes-wrap t.count _ (it.count_is ∙ ap (λ s. wrap (length s)) symbols_are) in
    let table_is : t.bytes.items ≡ table_bytes (symbols modules base imports) = it.bytes_are ∙ ap table_bytes symbols_are in
    e3 ∙ ap₂ (λ a b. a ++ b) (e2 ∙ ap₂ (λ a b. a ++ b) (e1 ∙ ap₂ (λ a b. a ++ (codes "BIM1" ++ (word_bytes base ++ (word_bytes b ++ word_bytes t.count)))) e0 es
    ∙ ap (λ b. codes "BIM1" ++ (word_bytes base ++ (word_bytes (code_length modules) ++ b))) count_is) table_is) code_is
    ∙ append_assoc (codes "BIM1" ++ (word_bytes base ++ (word_bytes (code_length modules) ++ word_bytes (length (symbols modules base imports)))))
    (table_bytes (symbols modules base imports)) (code modules base imports)
