-- The memory that a `Pages` is.
use Rattle.std.specs.Prelude.{ℕ, ◌/◌, ◌%◌, Option, Some, None, slice_index_or}
use Rattle.std.specs.Ordering.{nat_cmp}
use Rattle.std.specs.BTreeMap as tree
use Rattle.bed_machine.specs.Memory.{Memory}
use Rattle.bed_machine.specs.Plain.{cell}
use Rattle.bed_pages.specs.declared.page.Page.{Page}
use Rattle.bed_pages.specs.declared.pages.Pages.{Pages}

-- the page of a number
abbrev pub page_at : Pages → ℕ → Option Page
page_at p number = tree.get nat_cmp p.pages number

-- what a cell of a page holds; nothing where there is no page
abbrev pub in_page : Option Page → ℕ → Option ℕ
in_page None i = None
in_page (Some page) i = slice_index_or page.cells.items i None

-- the byte at each address: that of its cell in its page, whose addresses are 4096
abbrev pub pages_bytes : Pages → Memory
pages_bytes p a = cell a (in_page (page_at p (a / 4096)) (a % 4096))
