-- How many words a page has at most, and a name for the pages of worked runs.
use Rattle.std.proofs.Common.{◌≤◌, [], arith}
use Rattle.atomic_table.specs.Seated.{TableId}
use Rattle.ring_words.specs.declared.order.Orders.{Orders}
use Rattle.ring_words.specs.Page.{word_count}
use Rattle.ring_words.proofs.RingLaws.{size_within}

pub few_words : (orders : Orders) → word_count orders ≤ 2097166
few_words orders = omega (arith, (size_within orders.left).1, (size_within orders.right).1)

-- which table a page is doesn't matter to the laws
unfoldable pub some_page : TableId
some_page = record { words = 0; slots = 0; views_name = 0; atom = 0; block = 0; offset = 0; slot_names = [] }
