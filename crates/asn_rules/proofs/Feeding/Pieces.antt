-- What a session answers over a whole list of pieces follows from what it answers to each.
use Rattle.std.proofs.Common.{◌≡◌, ◌≢◌, ◌<◌, ◌+◌, ℕ, Result, Ok, Err, List, [], ◌∷◌, ◌++◌, length, take, refl, sym, ap, subst, append_assoc}
use Rattle.std.specs.Prelude.{⊤}
use Rattle.std.proofs.lemmas.List.{append-nil}
use Rattle.asn_values.specs.Profile.{InProfile}
use Rattle.asn_values.specs.Shape.{Shape}
use Rattle.asn_values.specs.View.{datum_of}
use Rattle.asn_bits.proofs.GeneralLengths.{all_take}
use Rattle.asn_rules.specs.declared.session.Step.{Step}
use Rattle.asn_rules.specs.declared.session.Step.TheVariants as step
use Rattle.asn_rules.specs.declared.session.FeedFault.{FeedFault}
use Rattle.asn_rules.specs.declared.session.FeedFault.TheVariants as feed
use Rattle.asn_rules.specs.Answer.{Ruling, Told, done, refused, too_long, more, Answer, max_octets}
use Rattle.asn_rules.specs.Laws.{AreOctets, RulesLaws}
use Rattle.asn_rules.specs.Pieces.{Turn, octets_of, AllWantMore, Takes, KeepsAllOctets, AnswersAllOctets, Settles, SettlesLaterAnswers, AnswerAlike, CutsDoNotMatter}
use Rattle.asn_rules.specs.Sessions.{Past, waiting, stopped, over, all_so_far, Fed, Feeds}
use Rattle.asn_rules.proofs.Answer.OneAnswer.{one_answer}
use Rattle.asn_rules.proofs.Feeding.Sessions.{all_read}

-- ---- what one answer tells

-- of a piece that begins after n octets
abbrev told : ℕ → Result Step FeedFault → Told
told n (Ok (step.Done value used)) = done (datum_of value) (n + used)
told n (Ok step.More) = more
told n (Err (feed.Refused at why)) = refused at
told n (Err _) = too_long

-- it tells something
abbrev Tells : Result Step FeedFault → Type 0
Tells (Err feed.Memory) = ⊥
Tells (Err feed.Spent) = ⊥
Tells _ = ⊤

-- two answers that tell one thing are alike
tell_alike : (m n : ℕ) (a b : Result Step FeedFault) → told m a ≡ told n b → Tells a → Tells b → AnswerAlike m a n b
tell_alike m n (Ok (step.Done value used)) (Ok (step.Done other count)) e g h = (cc, cc)
tell_alike m n (Ok step.More) (Ok step.More) e g h = tt
tell_alike m n (Err (feed.Refused at why)) (Err (feed.Refused place reason)) e g h = cc
tell_alike m n (Err feed.TooLong) (Err feed.TooLong) e g h = tt
tell_alike m n (Ok (step.Done value used)) (Ok step.More) e g h = cc
tell_alike m n (Ok (step.Done value used)) (Err (feed.Refused at why)) e g h = cc
tell_alike m n (Ok (step.Done value used)) (Err feed.TooLong) e g h = cc
tell_alike m n (Ok step.More) (Ok (step.Done value used)) e g h = cc
tell_alike m n (Ok step.More) (Err (feed.Refused at why)) e g h = cc
tell_alike m n (Ok step.More) (Err feed.TooLong) e g h = cc
tell_alike m n (Err (feed.Refused at why)) (Ok (step.Done value used)) e g h = cc
tell_alike m n (Err (feed.Refused at why)) (Ok step.More) e g h = cc
tell_alike m n (Err (feed.Refused at why)) (Err feed.TooLong) e g h = cc
tell_alike m n (Err feed.TooLong) (Ok (step.Done value used)) e g h = cc
tell_alike m n (Err feed.TooLong) (Ok step.More) e g h = cc
tell_alike m n (Err feed.TooLong) (Err (feed.Refused at why)) e g h = cc
tell_alike m n (Err feed.Memory) b e g h = absurd g
tell_alike m n (Err feed.Spent) b e g h = absurd g
tell_alike m n a (Err feed.Memory) e g h = absurd h
tell_alike m n a (Err feed.Spent) e g h = absurd h

module _ (r : Ruling) (t : Shape) where
  -- an answer to a session that waits for more is that to all octets so far, where it is not Memory
  so_told : (s p : List ℕ) (a : Result Step FeedFault) → Fed r t (waiting s) p a → a ≢ Err feed.Memory → Tells a × Answer r t (all_so_far s p) (told (length s) a)
  so_told s p (Ok (step.Done value used)) f n = (tt, f)
  so_told s p (Ok step.More) f n = (tt, f)
  so_told s p (Err (feed.Refused at why)) f n = (tt, f)
  so_told s p (Err feed.TooLong) f n = (tt, f)
  so_told s p (Err feed.Memory) f n = absurd (n refl)
  so_told s p (Err feed.Spent) f n = absurd f

  -- and the same octets are answered alike
  answered_alike : RulesLaws r → (s p s' p' : List ℕ) (a b : Result Step FeedFault) → InProfile t → AreOctets (s ++ p) → s ++ p ≡ s' ++ p' → Fed r t (waiting s) p a → Fed r t (waiting s') p' b → a ≢ Err feed.Memory → b ≢ Err feed.Memory → AnswerAlike (length s) a (length s') b
  answered_alike laws s p s' p' a b good os e f g n m =
      let one = so_told s p a f n in
      let two = so_told s' p' b g m in
      let same : all_so_far s' p' ≡ all_so_far s p = ap (take max_octets) (sym e) in
      let there : Answer r t (all_so_far s p) (told (length s') b) = subst (λ (l : List ℕ). Answer r t l (told (length s') b)) same two.1 in
      tell_alike (length s) (length s') a b
      (one_answer r laws t (all_so_far s p) (told (length s) a) (told (length s') b) good (all_take (λ o. o < 256) max_octets (s ++ p) os).0 one.1 there)
      one.0 two.0

-- ---- turns

module _ {Q : Type 0} (r : Ruling) (took : Q → Shape → Past → Type 0) where
  -- the turns after others begin where those end
  parted : (turns others : List Turn) (q q' : Q) → Takes r took (turns ++ others) q q' → (m : Q) × Takes r took turns q m × Takes r took others m q'
  parted [] others q q' w = (q, refl, w)
  parted (turn ∷ turns) others q q' w = let h = parted turns others w.0 q' w.2 in (h.0, (w.0, w.1, h.1), h.2)

  module _ (t : Shape) where
    -- after a piece after which more is wanted
    taken_on : (s p : List ℕ) (a : Result Step FeedFault) (q q' : Q) → a ≡ Ok step.More → took q t (waiting s) → Feeds r took q q' p a → took q' t (waiting (s ++ p))
    taken_on s p a q q' e h f =
        let g : Feeds r took q q' p (Ok step.More) = subst (λ (b : Result Step FeedFault). Feeds r took q q' p b) e f in
        let w = g t (waiting s) h in
        subst (λ (l : List ℕ). took q' t (waiting l)) (all_read r t (s ++ p) w.answered) w.taken

    -- after pieces after each of which more is wanted
    all_taken : (s : List ℕ) (turns : List Turn) (q q' : Q) → took q t (waiting s) → Takes r took turns q q' → AllWantMore turns → took q' t (waiting (s ++ octets_of turns))
    all_taken s [] q q' h w wants = subst (λ (x : Q). took x t (waiting (s ++ []))) w (subst (λ (l : List ℕ). took q t (waiting l)) (sym (append-nil s)) h)
    all_taken s (turn ∷ turns) q q' h w wants =
        subst (λ (l : List ℕ). took q' t (waiting l)) (append_assoc s turn.piece (octets_of turns))
        (all_taken (s ++ turn.piece) turns w.0 q' (taken_on s turn.piece turn.answer q w.0 wants.0 h w.1) w.2 wants.1)

    -- a session that has stopped tells its fault of every piece, and one that is over Spent
    still_stopped : (s : List ℕ) (fault : FeedFault) (turns : List Turn) (turn : Turn) (q q' : Q) → took q t (stopped s fault) → Takes r took (turns ++ turn ∷ []) q q' → turn.answer ≡ Err fault
    still_stopped s fault [] turn q q' h w = (w.1 t (stopped s fault) h).answered
    still_stopped s fault (other ∷ turns) turn q q' h w = still_stopped s fault turns turn w.0 q' (w.1 t (stopped s fault) h).taken w.2

    still_over : (s : List ℕ) (turns : List Turn) (turn : Turn) (q q' : Q) → took q t (over s) → Takes r took (turns ++ turn ∷ []) q q' → turn.answer ≡ Err feed.Spent
    still_over s [] turn q q' h w = (w.1 t (over s) h).answered
    still_over s (other ∷ turns) turn q q' h w = still_over s turns turn w.0 q' (w.1 t (over s) h).taken w.2

    settled : (s p : List ℕ) (a : Result Step FeedFault) (turns : List Turn) (turn : Turn) (q m q' : Q) → took q t (waiting s) → Feeds r took q m p a → Takes r took (turns ++ turn ∷ []) m q' → Settles a turn.answer
    settled s p (Ok (step.Done value used)) turns turn q m q' h f w = still_over (take (length s + used) (s ++ p)) turns turn m q' (f t (waiting s) h).taken w
    settled s p (Ok step.More) turns turn q m q' h f w = tt
    settled s p (Err (feed.Refused at why)) turns turn q m q' h f w = still_stopped (all_so_far s p) (feed.Refused at why) turns turn m q' (f t (waiting s) h).taken w
    settled s p (Err feed.TooLong) turns turn q m q' h f w = still_stopped (all_so_far s p) feed.TooLong turns turn m q' (f t (waiting s) h).taken w
    settled s p (Err feed.Memory) turns turn q m q' h f w = still_over s turns turn m q' (f t (waiting s) h).taken w
    settled s p (Err feed.Spent) turns turn q m q' h f w = absurd (f t (waiting s) h).answered

  -- ---- the laws

  pub keeps_all : KeepsAllOctets r took
  keeps_all t turns ran wants = all_taken t [] turns ran.first ran.last ran.opened ran.turned wants

  pub answers_all : AnswersAllOctets r took
  answers_all t turns turn ran wants =
      let h = parted turns (turn ∷ []) ran.first ran.last ran.turned in
      (h.2.1 t (waiting (octets_of turns)) (all_taken t [] turns ran.first h.0 ran.opened h.1 wants)).answered

  pub settles_later : SettlesLaterAnswers r took
  settles_later t turns turn between later ran wants =
      let h = parted turns (turn ∷ (between ++ later ∷ [])) ran.first ran.last ran.turned in
      settled t (octets_of turns) turn.piece turn.answer between later h.0 h.2.0 ran.last
      (all_taken t [] turns ran.first h.0 ran.opened h.1 wants) h.2.1 h.2.2

  pub cuts_do_not_matter : RulesLaws r → CutsDoNotMatter r took
  cuts_do_not_matter laws t turns turn others other good os ran wants ran' wants' e n m =
      answered_alike r t laws (octets_of turns) turn.piece (octets_of others) other.piece turn.answer other.answer good os e
      (answers_all t turns turn ran wants) (answers_all t others other ran' wants') n m
