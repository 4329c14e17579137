-- Presence bitmaps of extension additions of any count, tried one count after the other.
use Rattle.std.proofs.Common.{◌≡◌, ◌<◌, ◌≤◌, ◌+◌, ◌++◌, ℕ, zero, suc, Bool, true, List, ⊎_elim, subst, arith}
use Rattle.std.proofs.lemmas.Bool.{cases_lt, true≢false}
use Rattle.asn_rules.specs.Languages.{Spells, NoSpelling}
use Rattle.asn_rules.specs.Stops.{Stops}
use Rattle.asn_rules.specs.declared.fault.Why.{Why}
use Rattle.asn_rules.specs.declared.stop.Stop.TheVariants as stop
use Rattle.asn_walk.specs.Coding.{Coding, AdditionBitmapOf, fields_of_rules}
use Rattle.asn_rules.proofs.Live.Chunks.{FieldsPart}
use Rattle.asn_newer.specs.Bitmaps.{NotOfCount, NoneOfCount}
use Rattle.asn_newer.specs.Loose.{AnyBitmap}
use Rattle.asn_newer.proofs.Walk.Halts.{refused_begins}

-- a bitmap of a count is one of any count
pub of_any : (c : Coding) (n m : ℕ) (us rest : List ℕ) → n ≤ 64 → Spells (fields_of_rules c) (AdditionBitmapOf c n) m us rest → Spells (fields_of_rules c) (AnyBitmap c) (n, m) us rest
of_any c n m us rest few h = record {
  chunks = h.chunks;
  spelt = record { fits = record { few = few; some = h.spelt.fits.0; below = h.spelt.fits.1 }; same = h.spelt.same };
  contents = h.contents;
  split = h.split;
}

-- and back
of_count : (c : Coding) (n m : ℕ) (us rest : List ℕ) → Spells (fields_of_rules c) (AnyBitmap c) (n, m) us rest → Spells (fields_of_rules c) (AdditionBitmapOf c n) m us rest
of_count c n m us rest h = record { chunks = h.chunks; spelt = record { fits = (h.spelt.fits.some, h.spelt.fits.below); same = h.spelt.same }; contents = h.contents; split = h.split }

-- where the reader of a count stops
pub none_of_refused : (c : Coding) (n : ℕ) (us : List ℕ) (left : ℕ) (why : Why) (may_follow : Bool) → FieldsPart (fields_of_rules c) → Stops (fields_of_rules c) (AdditionBitmapOf c n) us (stop.Refused left why) → NoneOfCount c n us may_follow
none_of_refused c n us left why may_follow part h = record {
  none = λ m rest s. h.told.none m rest (of_count c n m us rest s);
  never = λ e after m rest s. refused_begins part h.told after m rest (of_count c n m (us ++ after) rest s);
}

pub none_of_short : (c : Coding) (n : ℕ) (us : List ℕ) → Stops (fields_of_rules c) (AdditionBitmapOf c n) us stop.Short → NoneOfCount c n us true
none_of_short c n us h = record { none = λ m rest s. h.told.none m rest (of_count c n m us rest s); never = λ e. absurd (true≢false e) }

-- no bitmap is of no additions
pub none_of_none : (c : Coding) (us : List ℕ) → NotOfCount c 0 us
none_of_none c us m rest h = absurd (omega (arith, h.spelt.fits.some, h.spelt.fits.below))

-- one count more
pub none_further : (c : Coding) (n : ℕ) (us : List ℕ) → ((k : ℕ) → k < n → NotOfCount c k us) → NotOfCount c n us → (k : ℕ) → k < n + 1 → NotOfCount c k us
none_further c n us before here k h = ⊎_elim (λ l. before k l) (λ l. (let e : n ≡ k = omega (arith, h, l) in subst (λ (i : ℕ). NotOfCount c i us) e here)) (cases_lt k n)

-- no count is below 1
pub before_one : (c : Coding) (us : List ℕ) (k : ℕ) → k < 1 → NotOfCount c k us
before_one c us zero h = none_of_none c us
before_one c us (suc k) h = absurd (omega (arith, h))

-- all counts were tried
pub none_of_all : (c : Coding) (us : List ℕ) → ((k : ℕ) → k < 65 → NotOfCount c k us) → NoSpelling (fields_of_rules c) (AnyBitmap c) us
none_of_all c us all p rest h = all p.0 (omega (arith, h.spelt.fits.few)) p.1 rest h
