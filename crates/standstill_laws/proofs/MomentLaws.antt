-- What was found at one moment of a page is so at any other, if nothing came or went and no end was opened, shut or retired.
use Rattle.std.proofs.Common.{◌≡◌, ◌≢◌, ℕ, length, Bool, true, false, Some, refl, sym, ap, ◌∙◌, arith}
use Rattle.ring_words.specs.declared.page.Role.{Role}
use Rattle.ring_words.specs.declared.page.Role.TheVariants.{Server, Client}
use Rattle.ring_words.specs.declared.page.Ring.{Ring}
use Rattle.ring_words.specs.declared.page.Ring.TheVariants.{Left, Right}
use Rattle.vchan_protocol.specs.declared.call.EndState.{EndState}
use Rattle.vchan_protocol.specs.declared.call.EndState.TheVariants.{Fresh, Open, Shut}
use Rattle.vchan_protocol.specs.declared.side.Side.{Side}
use Rattle.vchan_protocol.specs.Table.Ends.{prod_word, cons_word, peer_live, low8, read_ring}
use Rattle.vchan_protocol.specs.Answering.Loads.{Loads}
use Rattle.vchan_protocol.specs.History.Core.{Core, side_of}
use Rattle.vchan_protocol.specs.History.Page.{live_word}
use Rattle.vchan_protocol.specs.Honest.Lawful.{Lawful}
use Rattle.vchan_protocol.specs.Honest.RingLaw.{index_at, word_at}
use Rattle.standstill_laws.specs.Page.{AreIndices, IsLiveStill, FoundNothing}
use Rattle.standstill_laws.specs.Moments.{AreMoments, EndGoesOn, PageGoesOn, IsBetween}

-- an end got and sent no more bytes, and was neither opened, shut nor retired
pub record EndRested (before now : Side) : Type 0 where
  pub got : length now.got ≡ length before.got
  pub sent : length now.sent ≡ length before.sent
  pub state : now.state ≡ before.state
  pub retired : now.retired ≡ before.retired

-- two moments of a page between which that is so of both ends, whatever events came
pub record PageRested (before now : Core) : Type 0 where
  pub start : now.start ≡ before.start
  pub orders : now.orders ≡ before.orders
  pub ends : (who : Role) → EndRested (side_of before who) (side_of now who)

-- what was found and is still so at the first moment is still so at the second
pub record KeepsFindings (before now : Core) : Type 0 where
  pub indices : (ring : Ring) (prod cons : ℕ) → AreIndices before ring prod cons → AreIndices now ring prod cons
  pub live : (who : Role) (loads : Loads) → IsLiveStill before who loads → IsLiveStill now who loads
  pub nothing : (who : Role) → FoundNothing before who → FoundNothing now who

-- ---- two moments: the words follow from what the ends got and sent, and from their states

module _ (before now : Core) (old : Lawful before) (new : Lawful now) (rested : PageRested before now) where
  index_stays : (was later : ℕ) → later ≡ was → index_at before.start was ≡ index_at now.start later
  index_stays was later same = ap (λ (n : ℕ). index_at n was) (sym rested.start) ∙ ap (index_at now.start) (sym same)

  prod_stays : (ring : Ring) → word_at before.orders before.words (prod_word ring) ≡ word_at now.orders now.words (prod_word ring)
  prod_stays Left = old.left.lawful.prod ∙ index_stays (length before.client.sent) (length now.client.sent) (rested.ends Client).sent ∙ sym new.left.lawful.prod
  prod_stays Right = old.right.lawful.prod ∙ index_stays (length before.server.sent) (length now.server.sent) (rested.ends Server).sent ∙ sym new.right.lawful.prod

  cons_stays : (ring : Ring) → word_at before.orders before.words (cons_word ring) ≡ word_at now.orders now.words (cons_word ring)
  cons_stays Left = old.left.lawful.cons ∙ index_stays (length before.server.got) (length now.server.got) (rested.ends Server).got ∙ sym new.left.lawful.cons
  cons_stays Right = old.right.lawful.cons ∙ index_stays (length before.client.got) (length now.client.got) (rested.ends Client).got ∙ sym new.right.lawful.cons

  live_stays : (who : Role) → word_at before.orders before.words (peer_live who) ≡ word_at now.orders now.words (peer_live who)
  live_stays Server = old.lives.client_words.live ∙ ap live_word (sym (rested.ends Client).state) ∙ sym new.lives.client_words.live
  live_stays Client = old.lives.server_words.live ∙ ap live_word (sym (rested.ends Server).state) ∙ sym new.lives.server_words.live

  indices : (ring : Ring) (prod cons : ℕ) → AreIndices before ring prod cons → AreIndices now ring prod cons
  indices ring prod cons still = (still.0 ∙ prod_stays ring, still.1 ∙ cons_stays ring)

  keeps_findings : KeepsFindings before now
  keeps_findings = record {
    indices = indices;
    live = λ who loads still. still ∙ ap (λ (n : ℕ). Some (low8 n)) (live_stays who);
    nothing = λ who found. record {
      begun = found.begun;
      stood = (found.stood.0, found.stood.1 ∙ sym rested.orders);
      most = found.most;
      loads = found.loads;
      prod = found.prod;
      cons = found.cons;
      cause = found.cause;
      still = indices (read_ring who) found.prod found.cons found.still;
    };
  }

-- ---- an end at a moment between

-- an end that is in one state at the first moment and at the last was in it all the time
state_stays : (first mid last : EndState) → last ≡ first → (first ≢ Fresh → mid ≢ Fresh) → (first ≡ Shut → mid ≡ Shut) → (mid ≢ Fresh → last ≢ Fresh) → (mid ≡ Shut → last ≡ Shut) → mid ≡ first
state_stays Fresh Fresh last same opened shut opened' shut' = refl
state_stays Fresh Open last same opened shut opened' shut' = absurd (opened' (λ is. cc) same)
state_stays Fresh Shut last same opened shut opened' shut' = absurd (opened' (λ is. cc) same)
state_stays Open Fresh last same opened shut opened' shut' = absurd (opened (λ is. cc) refl)
state_stays Open Open last same opened shut opened' shut' = refl
state_stays Open Shut last same opened shut opened' shut' = let both : Open ≡ Shut = sym same ∙ shut' refl in cc
state_stays Shut mid last same opened shut opened' shut' = shut refl

flag_stays : (first mid last : Bool) → last ≡ first → (first ≡ true → mid ≡ true) → (mid ≡ true → last ≡ true) → mid ≡ first
flag_stays true mid last same since until = since refl
flag_stays false true last same since until = sym (until refl) ∙ same
flag_stays false false last same since until = refl

end_stays : (first mid last : Side) → EndGoesOn first mid → EndGoesOn mid last → EndRested first last → EndRested first mid
end_stays first mid last since until rested = record {
  got = omega (arith, since.got, until.got, rested.got);
  sent = omega (arith, since.sent, until.sent, rested.sent);
  state = state_stays first.state mid.state last.state rested.state since.opened since.shut until.opened until.shut;
  retired = flag_stays first.retired mid.retired last.retired rested.retired since.retired until.retired;
}

end_both : (first one other : Side) → EndRested first one → EndRested first other → EndRested one other
end_both first one other a b = record { got = b.got ∙ sym a.got; sent = b.sent ∙ sym a.sent; state = b.state ∙ sym a.state; retired = b.retired ∙ sym a.retired }

-- ---- a page

-- from the first moment to one between
rested_since : (first last mid : Core) → IsBetween first last mid → PageRested first last → PageRested first mid
rested_since first last mid between rested = record {
  start = between.since.moments.start;
  orders = between.since.moments.orders;
  ends = λ who. end_stays (side_of first who) (side_of mid who) (side_of last who) (between.since.ends who) (between.until.ends who) (rested.ends who);
}

rested_both : (first one other : Core) → PageRested first one → PageRested first other → PageRested one other
rested_both first one other a b = record {
  start = b.start ∙ sym a.start;
  orders = b.orders ∙ sym a.orders;
  ends = λ who. end_both (side_of first who) (side_of one who) (side_of other who) (a.ends who) (b.ends who);
}

-- where a page rested from the first moment to the last, what was found at any moment between these is so at any other
pub moments_rest : (first last one other : Core) → IsBetween first last one → IsBetween first last other → PageRested first last → KeepsFindings one other
moments_rest first last one other is also rested =
    keeps_findings one other is.since.moments.lawful_now also.since.moments.lawful_now (rested_both first one other (rested_since first last one is rested) (rested_since first last other also rested))

-- ---- the last moment is one of those between

end_goes_on : (before now : Side) → EndRested before now → EndGoesOn before now
end_goes_on before now rested = record {
  got = omega (arith, rested.got);
  sent = omega (arith, rested.sent);
  opened = λ opened is. opened (sym rested.state ∙ is);
  shut = λ is. rested.state ∙ is;
  retired = λ is. rested.retired ∙ is;
}

same_end : (s : Side) → EndRested s s
same_end s = record { got = refl; sent = refl; state = refl; retired = refl }

page_same : (core : Core) → Lawful core → PageGoesOn core core
page_same core lawful = record {
  moments = record { lawful = lawful; lawful_now = lawful; start = refl; orders = refl };
  ends = λ who. end_goes_on (side_of core who) (side_of core who) (same_end (side_of core who));
}

pub last_between : (first last : Core) → AreMoments first last → PageRested first last → IsBetween first last last
last_between first last moments rested = record {
  since = record { moments = moments; ends = λ who. end_goes_on (side_of first who) (side_of last who) (rested.ends who) };
  until = page_same last moments.lawful_now;
}

-- ---- open ends

-- an end that isn't shut at the last moment is shut at none between
pub not_shut : (first last mid : Core) → IsBetween first last mid → (who : Role) → (side_of last who).state ≢ Shut → (side_of mid who).state ≢ Shut
not_shut first last mid is who up shut = up ((is.until.ends who).shut shut)
