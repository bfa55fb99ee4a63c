-- The law of the spread, said of the kind of tone that a set's calls name.
use Rattle.std.proofs.Common.{◌≡◌, ℕ, ◌<◌, ◌≤◌, List, length, ℤ, Some, sym}
use Rattle.std.proofs.lemmas.List.{length-map, length-take-le}
use Rattle.ink.specs.Inks.{Around, Inks, OfKind, Within}
use Rattle.ink.specs.Values.{limited, values}

pub close_of_kind : {T : Type 0} (m : Inks T) (count : ℕ) (value : T → ℕ → ℕ) → OfKind m count value
    → (u : List ℤ) (e : ℕ) → length u ≡ count → m.spread ≡ Some e → ((i : ℕ) → i < count → Around e u i)
    → (i : ℕ) → i < count → Within e u i (value (m.tone (m.choice u)) i)
close_of_kind m count value k u e long s around i p =
    rw (sym k.1) (m.close u e (rw k.0 long) s (λ j q. around j (rw k.0 at q)) i (rw k.0 p))

-- there is one value for each channel
pub length_values : (count : ℕ) (ws : List ℤ) → count ≤ length ws → length (values count ws) ≡ count
length_values count ws l = rw (length-map _ limited) (length-take-le count ws l)
