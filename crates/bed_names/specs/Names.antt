-- Names in lists, and variables with their sorts. Names are compared by their bytes; of several variables of one name the first
-- one counts.
use Rattle.std.specs.Prelude.{Bool, false, ◌||◌, if◌then◌else◌, List, [], ◌∷◌, map, Option, None, Some, bytes_eq}
use Rattle.bed_lang.specs.declared.word.Name.{Name}
use Rattle.bed_lang.specs.declared.word.Sort.{Sort}
use Rattle.bed_lang.specs.declared.word.Sort.TheVariants as sort
use Rattle.bed_lang.specs.declared.logic.Bind.{Bind}

-- whether a name is in a list
abbrev pub is_among : List Name → Name → Bool
is_among [] x = false
is_among (y ∷ ys) x = bytes_eq x.bytes y.bytes || is_among ys x

-- the sort of a variable
abbrev pub sort_of : List Bind → Name → Option Sort
sort_of [] x = None
sort_of (b ∷ bs) x = if bytes_eq x.bytes b.name.bytes then Some b.sort else sort_of bs x

-- names that stand for words, and for sequences
abbrev pub words : List Name → List Bind
words xs = map (λ x. record { name = x; sort = sort.Word }) xs

abbrev pub sequences : List Name → List Bind
sequences xs = map (λ x. record { name = x; sort = sort.Seq }) xs
