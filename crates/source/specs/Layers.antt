-- Layers: pages made from the page below.
use Rattle.std.specs.Prelude.{ℕ, ◌+◌, ◌-◌, min, Bool, cond, List}
use Rattle.tone.specs.Channels.{channels_of}
use Rattle.source.specs.Pages.{Page, Place, tone, missing}

-- a layer's number is one more than the number below, and stops at 65,535
abbrev pub above : ℕ → ℕ
above l = min (l + 1) 65535

-- the window of h rows and w columns whose first place is (top, left), each dimension cut to the page below
abbrev pub cropped : {T : Type 0} → (top left h w : ℕ) → Page T → Page T
cropped top left h w p = record {
  width = min w (p.width - left);
  height = min h (p.height - top);
  layer = above p.layer;
  place = λ r c. p.place (top + r) (left + c);
}

module _ {T : Type 0} (n : ℕ) (value : T → ℕ → ℕ) (made : List ℕ → T) where
  -- the tone with 255 - x in each of its n channels
  abbrev pub negative_tone : T → T
  negative_tone t = made (channels_of n (λ i. 255 - value t i))

  abbrev pub negative_place : Bool → Place T → Place T
  negative_place on (tone t) = tone (cond on (negative_tone t) t)
  negative_place on (missing s) = missing s

  -- the page below, with each tone turned to its negative where the layer is on
  abbrev pub negated : Bool → Page T → Page T
  negated on p = record {
    width = p.width;
    height = p.height;
    layer = above p.layer;
    place = λ r c. negative_place on (p.place r c);
  }
