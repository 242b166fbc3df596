-- What holds of every text.
use Rattle.std.specs.Prelude.{◌≡◌, ◌≢◌, ℕ, List, Err, ◌⊎◌}
use Rattle.bed_lang.specs.declared.module.Module as modules
use Rattle.bed_read.specs.declared.whole.ReadError.{ReadError}
use Rattle.bed_read.specs.declared.whole.ReadError.TheVariants.{Memory}
use Rattle.bed_read.specs.Reading.{IsModule, ReadsModule}

-- a text is that of one module at most
abbrev pub OneModule : List ℕ → Type 0
OneModule text = (m n : modules.Module) → IsModule text m → IsModule text n → m ≡ n

-- a text of a module has no refusal
abbrev pub IsNotRefused : List ℕ → Type 0
IsNotRefused text = (m : modules.Module) (e : ReadError) → IsModule text m → ReadsModule text (Err e) → e ≡ Memory

-- a text has one refusal at most
abbrev pub OneRefusal : List ℕ → Type 0
OneRefusal text = (e d : ReadError) → e ≢ Memory → d ≢ Memory → ReadsModule text (Err e) → ReadsModule text (Err d) → e ≡ d

-- a text is that of a module, or has a refusal that isn't want of memory
abbrev pub HasAnswer : List ℕ → Type 0
HasAnswer text = ((m : modules.Module) × IsModule text m) ⊎ ((e : ReadError) × (e ≢ Memory) × ReadsModule text (Err e))
