-- The other end of a page, and what a word of a core state's page holds.
use Rattle.std.specs.Prelude.{ℕ, slice_index}
use Rattle.ring_words.specs.Page.{index_of}
use Rattle.ring_words.specs.declared.page.Role.{Role}
use Rattle.ring_words.specs.declared.page.Role.TheVariants.{Server, Client}
use Rattle.ring_words.specs.declared.page.WordName.{WordName}
use Rattle.vchan_protocol.specs.History.Core.{Core}

-- the other end
abbrev pub peer : Role → Role
peer Server = Client
peer Client = Server

-- what a word of the page holds
abbrev pub held : Core → WordName → ℕ
held core word = slice_index core.words (index_of core.orders word)
