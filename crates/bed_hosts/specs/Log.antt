-- What a list of entries says: the arguments and the answer of each call.
use Rattle.std.specs.Prelude.{ℕ, List, map}
use Rattle.bed_hosts.specs.declared.entry.Entry.{Entry}

abbrev pub call_of : Entry → List ℕ × ℕ
call_of entry = (entry.args.items, entry.answer)

abbrev pub log_of : List Entry → List (List ℕ × ℕ)
log_of entries = map call_of entries
