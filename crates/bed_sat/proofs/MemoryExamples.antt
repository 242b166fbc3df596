-- The definitions at work on small memories.
use Rattle.std.proofs.Common.{◌≡◌, ℕ, Some, [], ◌∷◌, length, codes, refl, sym, ◌∙◌, ap, ap₂, subst, subst₂, arith}
use Rattle.bed_lang.specs.Numbers.{wrap}
use Rattle.bed_machine.specs.Memory.{Memory, empty}
use Rattle.bed_lang.specs.declared.word.Word.{Number}
use Rattle.bed_lang.specs.declared.word.Seq.{Nil, Cons}
use Rattle.bed_lang.specs.Values.{Values, value, list_value}
use Rattle.bed_lang.proofs.ValueLaws.{value-Number, list_value-Nil, list_value-Cons}
use Rattle.bed_sat.specs.Parts.{Joins, union}
use Rattle.bed_sat.specs.Cells.{AreWordsAt, IsBlock}
use Rattle.bed_sat.specs.Assertions.{World, WordValue, ListValue, blank, meaning}
use Rattle.bed_sat.specs.Examples.{bytes_at, prelude_world, two_words, two_nodes, BlockExample, ForgottenExample, SegmentExample, NowhereExample, WrapExample, NoFunctionsExample}
use Rattle.bed_machine.proofs.WordLaws.{four_bytes}
use Rattle.bed_sat.proofs.PartLaws.{joins_comm, joins_empty, joins_union, to_empty}
use Rattle.bed_sat.proofs.RowLaws.{joins_rows, rows_apart, row_cell}
use Rattle.bed_sat.proofs.ListLaws.{segment_empty, segment_longer}

number : (w : World) (ν : Values) (n : ℕ) → value w.labels ν (Number n) ≡ wrap n
number w ν n = value-Number w.labels ν n

-- two words in a row
two_cells : AreWordsAt 1000 (1 ∷ 2 ∷ []) two_words
two_cells = (
  bytes_at 1000 (1 ∷ 0 ∷ 0 ∷ 0 ∷ []),
  bytes_at 1004 (2 ∷ 0 ∷ 0 ∷ 0 ∷ []),
  joins_rows 1000 (1 ∷ 0 ∷ 0 ∷ 0 ∷ []) (2 ∷ 0 ∷ 0 ∷ 0 ∷ []) 1004 refl,
  row_cell 1000 1 0 0 0 (omega arith, (omega arith, (omega arith, (omega arith, tt)))) (omega arith),
  (
    bytes_at 1004 (2 ∷ 0 ∷ 0 ∷ 0 ∷ []),
    empty,
    to_empty (bytes_at 1004 (2 ∷ 0 ∷ 0 ∷ 0 ∷ [])),
    row_cell 1004 2 0 0 0 (omega arith, (omega arith, (omega arith, (omega arith, tt)))) (omega arith),
    refl,
  ),
)

pub block_example : BlockExample
block_example = (
  0,
  (
    two_words,
    empty,
    to_empty two_words,
    subst₂ (λ a n. IsBlock a n two_words) (sym (number prelude_world blank 1000)) (sym (number prelude_world blank 2)) (1 ∷ 2 ∷ [], refl, two_cells),
    refl,
  ),
)

pub forgotten_example : ForgottenExample
forgotten_example is =
    let t = is.1 in
    let same : two_words ≡ t.0 = joins_empty (subst (Joins two_words t.0) t.4 t.2) in
    let there : t.0 1004 ≡ Some 2 = sym (ap (λ h. h 1004) same) in
    let o = t.3.only 1004 2 there in
    let at : value prelude_world.labels blank (Number 1000) ≡ 1000 = number prelude_world blank 1000 in
    omega (arith, o.1)

pub segment_example : SegmentExample
segment_example =
    let w = prelude_world in
    let last : Memory = bytes_at 1008 (8 ∷ 0 ∷ 0 ∷ 0 ∷ 0 ∷ 0 ∷ 0 ∷ 0 ∷ []) in
    let end : meaning w 1 (codes "lseg") (WordValue 0 ∷ WordValue 0 ∷ ListValue [] ∷ []) empty = segment_empty w refl 0 0 in
    let second : meaning w 2 (codes "lseg") (WordValue 1008 ∷ WordValue 0 ∷ ListValue (8 ∷ []) ∷ []) last =
    segment_longer w refl 1 1008 0 8 0 [] last (bytes_at 1008 (8 ∷ 0 ∷ 0 ∷ 0 ∷ [])) (bytes_at 1012 (0 ∷ 0 ∷ 0 ∷ 0 ∷ [])) (bytes_at 1012 (0 ∷ 0 ∷ 0 ∷ 0 ∷ [])) empty (λ e. absurd (omega arith))
    (joins_rows 1008 (8 ∷ 0 ∷ 0 ∷ 0 ∷ []) (0 ∷ 0 ∷ 0 ∷ 0 ∷ []) 1012 refl) (row_cell 1008 8 0 0 0 (omega arith, (omega arith, (omega arith, (omega arith, tt)))) (omega arith))
    (to_empty (bytes_at 1012 (0 ∷ 0 ∷ 0 ∷ 0 ∷ []))) (row_cell 1012 0 0 0 0 (omega arith, (omega arith, (omega arith, (omega arith, tt)))) (omega arith)) end in
    let first : meaning w 3 (codes "lseg") (WordValue 1000 ∷ WordValue 0 ∷ ListValue (7 ∷ 8 ∷ []) ∷ []) two_nodes =
    segment_longer w refl 2 1000 0 7 1008 (8 ∷ []) two_nodes (bytes_at 1000 (7 ∷ 0 ∷ 0 ∷ 0 ∷ [])) (bytes_at 1004 (240 ∷ 3 ∷ 0 ∷ 0 ∷ 8 ∷ 0 ∷ 0 ∷ 0 ∷ 0 ∷ 0 ∷ 0 ∷ 0 ∷ [])) (bytes_at 1004 (240 ∷ 3 ∷ 0 ∷ 0 ∷ [])) last (λ e. absurd (omega arith))
    (joins_rows 1000 (7 ∷ 0 ∷ 0 ∷ 0 ∷ []) (240 ∷ 3 ∷ 0 ∷ 0 ∷ 8 ∷ 0 ∷ 0 ∷ 0 ∷ 0 ∷ 0 ∷ 0 ∷ 0 ∷ []) 1004 refl) (row_cell 1000 7 0 0 0 (omega arith, (omega arith, (omega arith, (omega arith, tt)))) (omega arith))
    (joins_rows 1004 (240 ∷ 3 ∷ 0 ∷ 0 ∷ []) (8 ∷ 0 ∷ 0 ∷ 0 ∷ 0 ∷ 0 ∷ 0 ∷ 0 ∷ []) 1008 refl) (row_cell 1004 240 3 0 0 (omega arith, (omega arith, (omega arith, (omega arith, tt)))) (omega arith)) second in
    let rest : list_value w.labels blank (Cons (Number 8) Nil) ≡ 8 ∷ [] = list_value-Cons w.labels blank (Number 8) Nil ∙ ap₂ (λ x y. x ∷ y) (number w blank 8) (list_value-Nil w.labels blank) in
    let elements : list_value w.labels blank (Cons (Number 7) (Cons (Number 8) Nil)) ≡ 7 ∷ 8 ∷ [] =
    list_value-Cons w.labels blank (Number 7) (Cons (Number 8) Nil) ∙ ap₂ (λ x y. x ∷ y) (number w blank 7) rest in (
      3,
      (
        two_nodes,
        empty,
        to_empty two_nodes,
        subst (λ vs. meaning w 3 (codes "lseg") vs two_nodes)
            (ap₂ (λ x y. WordValue x ∷ y) (sym (number w blank 1000)) (ap₂ (λ x y. WordValue x ∷ ListValue y ∷ []) (sym (number w blank 0)) (sym elements))) first,
        refl,
      ),
    )

pub nowhere_example : NowhereExample
nowhere_example w ν h = (
  λ e is. let t = is.1 in let byte = t.3 in let o = byte.only _ _ byte.holds in let n = number w ν 256 in omega (arith, o.1),
  λ v is.
      let t = is.1 in
      let f = four_bytes t.0 _ _ t.3.holds in
      let n = number w ν 4294967293 in
      omega (arith, f.in_range),
)

pub wrap_example : WrapExample
wrap_example =
    let high : Memory = bytes_at 4294967292 (0 ∷ 0 ∷ 0 ∷ 0 ∷ []) in
    let low : Memory = bytes_at 0 (0 ∷ 0 ∷ 0 ∷ 0 ∷ []) in (
      union low high,
      (
        0 ∷ 0 ∷ [],
        refl,
        (
          high,
          low,
          joins_comm (joins_union (rows_apart 0 (0 ∷ 0 ∷ 0 ∷ 0 ∷ []) 4294967292 (0 ∷ 0 ∷ 0 ∷ 0 ∷ []) (omega arith))),
          row_cell 4294967292 0 0 0 0 (omega arith, (omega arith, (omega arith, (omega arith, tt)))) (omega arith),
          (low, empty, to_empty low, row_cell 0 0 0 0 0 (omega arith, (omega arith, (omega arith, (omega arith, tt)))) (omega arith), refl),
        ),
      ),
    )

pub no_functions_example : NoFunctionsExample
no_functions_example p none = record { fine = λ X out f ν s F exported start states run. let lt = start.listed.1 in absurd (omega (arith, ap length none)) }
