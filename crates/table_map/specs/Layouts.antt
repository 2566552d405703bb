-- How an event and the items of lists are laid out. Assumes nothing.
use Rattle.std.specs.Prelude.{ℕ, zero, suc}
use Rattle.wire.specs.Bits.{bytes_for}
use Rattle.wire.specs.Layouts.{bytes, named, integer, string, Layout, ◌then◌, counting, whatever}
use Rattle.table_map.specs.Events.{id_bytes}

-- "Table id: 4 bytes if the post-header length is 6, else 6 bytes. Flags 2. Database name: length byte, bytes, one skipped byte. Table name
-- likewise. Packed column count n; n type bytes; packed length and the metadata; ceil(n/8) bytes of nullable bits, lowest first; the rest
-- is optional metadata."
abbrev pub event_layout : ℕ → Layout
event_layout post_header =
    bytes (id_bytes post_header)
    then bytes 2
    then named then bytes 1
    then named then bytes 1
    then counting (λ n. bytes n then string then bytes (bytes_for n) then whatever)

-- "pairs", of two packed integers
abbrev pub pair_layout : Layout
pair_layout = integer then integer then whatever

-- "packed-length strings", n of them
unfoldable pub strings_layout : ℕ → Layout
strings_layout zero = whatever
strings_layout (suc n) = string then strings_layout n

-- "groups of a packed count and that many strings"
abbrev pub group_layout : Layout
group_layout = counting strings_layout
