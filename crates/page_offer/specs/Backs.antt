-- What goes through the ring by which a client's end comes back: a mark of the page, then the end.
-- The ring is this project's own.
use Rattle.std.specs.Prelude.{◌≡◌, List, [], ◌∷◌}
use Rattle.ring_words.specs.declared.page.Role.TheVariants.{Client}
use Rattle.std.specs.declared.alloc.Global.{Global}
use Rattle.rtrb.specs.declared.producer.Producer.{Producer}
use Rattle.rtrb.specs.declared.consumer.Consumer.{Consumer}
use Rattle.page_offer.specs.declared.back.Back.{Back}
use Rattle.page_offer.specs.declared.back.OnePage.{OnePage}
use Rattle.page_offer.specs.declared.back.Back.TheVariants.{Of, Done}

-- after the mark of a page its client's end may follow
abbrev pub Follows : List Back → Back → Type 0
Follows [] (Of page) = Unit {0}
Follows (Of page ∷ more) (Done end) = (end.page ≡ page.value.table) × (end.side.role ≡ Client)
Follows before back = ⊥

-- the side by which the client gives its end back, and the side from which the server takes it
abbrev pub BackSender : Type 0
BackSender = Producer Back Global OnePage

abbrev pub BackReceiver : Type 0
BackReceiver = Consumer Back Global OnePage
