-- Parts of code: a test with the statements that it guards, and a loop over a list, before and after what is done at a node.
use Rattle.std.specs.Prelude.{ℕ, ◌+◌, List, ◌++◌}
use Rattle.bed_lang.specs.declared.word.Name.{Name}
use Rattle.bed_lang.specs.declared.module.Operand.TheVariants as operand
use Rattle.bed_lang.specs.declared.module.Test.{Test}
use Rattle.bed_table.specs.Pieces.{Piece}
use Rattle.bed_table.specs.CodeTable.{assignment, load, test_size, test_bytes, jump_bytes, jump_size, jump_if}
use Rattle.bed_table.specs.ListLoops.{not_null, field_at}

-- the test jumps behind the body and its jump
abbrev pub guarded : List Name → (List ℕ → ℕ) → Test → Piece → ℕ → ℕ → List ℕ
guarded locals labels t body at target =
    test_bytes locals labels t at (at + test_size t + body.size + jump_size body.falls)
    ++ (body.bytes locals labels (at + test_size t) ++ jump_if body.falls (at + test_size t + body.size) target)

abbrev pub list_front : List Name → (List ℕ → ℕ) → Name → Name → Name → ℕ → ℕ → List ℕ
list_front locals labels n v p at end =
    (assignment n (operand.Local p)).bytes locals labels at
    ++ (test_bytes locals labels (not_null n) (at + 12) end ++ (load v (field_at n 0)).bytes locals labels (at + 31))

abbrev pub list_back : List Name → (List ℕ → ℕ) → Name → Name → ℕ → ℕ → List ℕ
list_back locals labels n v jump_at head =
    (load v (field_at n 4)).bytes locals labels jump_at
    ++ ((assignment n (operand.Local v)).bytes locals labels jump_at ++ jump_bytes jump_at head)
