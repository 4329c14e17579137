-- What is asked for of the messages of a job.
use Rattle.std.specs.Prelude.{◌≡◌, false, [], None}
use Rattle.asn_request.specs.declared.asking.Asking.{Asking}

-- nothing: messages are lines of standard input, and are answered by lines as they are
abbrev pub IsPlain : Asking → Type 0
IsPlain a = (a.messages.items ≡ []) × (a.is_explained ≡ false) × (a.is_counted ≡ false) × (a.forms.given ≡ None)
    × (a.forms.written ≡ None) × (a.forms.is_split ≡ false) × (a.layout.is_declared ≡ false)
    × (a.layout.is_pretty ≡ false) × (a.versions.is_json ≡ false) × (a.versions.is_taken_back ≡ false)
    × (a.budget ≡ None)
