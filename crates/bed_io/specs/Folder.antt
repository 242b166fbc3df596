-- Files in memory, by the bytes of their names.
use Rattle.std.specs.Prelude.{ℕ, List, Option, Vec}
use Rattle.std.specs.Option.{option_map}
use Rattle.std.specs.Ordering.{nat_cmp}
use Rattle.std.specs.Cmp.Lexicographic.{slice_cmp}
use Rattle.std.specs.BTreeMap.{BTreeMap, get_by}
use Rattle.std.specs.declared.alloc.Global.{Global}
use Rattle.bed_io.specs.declared.folder.Folder.{Folder}

-- the bytes that a map has under a name
abbrev pub stored : BTreeMap (Vec ℕ Global) (Vec ℕ Global) → List ℕ → Option (List ℕ)
stored files name = option_map (λ bytes. bytes.items) (get_by (λ key. slice_cmp nat_cmp name key.items) files)

-- the contents of a file of this name
abbrev pub held_in : Folder → List ℕ → Option (List ℕ)
held_in folder name = stored folder.files name
