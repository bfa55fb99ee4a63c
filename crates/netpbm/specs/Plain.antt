-- The plainest header, as page writers make it.
use Rattle.std.specs.Prelude.{ℕ, List, ◌∷◌, ◌++◌, codes, decimal}

-- `start`, width, space, height, `end`
abbrev pub framed : List ℕ → (w h : ℕ) → List ℕ → List ℕ
framed start w h end = start ++ decimal w ++ codes " " ++ decimal h ++ end

-- P and the kind's letter, LF, width, space, height, LF, 255, LF
abbrev pub plain_header : (letter w h : ℕ) → List ℕ
plain_header letter w h = framed (80 ∷ letter ∷ codes "\n") w h (codes "\n255\n")
