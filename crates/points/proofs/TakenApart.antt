-- An entry gives back the parts that it was made of. Assumes nothing.
use Prim.Native.Nat.{ℕ, ◌<◌}
use mathlib.Core.Path.{◌≡◌, ap, ◌∙◌}
use mathlib.Core.Bool.{Bool, true, false}
use native.Mathlib.Omega.{arith}
use borrow.Author.Tests.{ltb-true}
use Rattle.words.specs.Words.{pick}
use Rattle.words.proofs.Laws.{both}
use Rattle.paper.specs.DataWords.{sector_zero, point}
use Rattle.points.specs.Points.{point_x, point_y, point_intensity, point_blink, point_word, Apart}

on_screen : (x y : ℕ) → sector_zero x y ≡ true → (x < 1024) × (y < 1024)
unfolding sector_zero
on_screen x y h = let k = both _ _ h in (ltb-true _ _ k.0, ltb-true _ _ k.1)

parts : (x y intensity : ℕ) (blink : Bool) (word : ℕ) → x < 1024 → y < 1024 → intensity < 8 → word < 32768 →
    let p = point x y intensity blink word in
    (point_x p ≡ x) × (point_y p ≡ y) × (point_intensity p ≡ intensity) × (point_blink p ≡ pick blink 1 0) × (point_word p ≡ word)
unfolding point pick
parts x y intensity true word hx hy hi hw = (omega arith, omega arith, omega arith, omega arith, omega arith)
parts x y intensity false word hx hy hi hw = (omega arith, omega arith, omega arith, omega arith, omega arith)

pub apart : Apart
apart p e =
    let screen = on_screen e.x e.y e.screen in
    let k = parts e.x e.y e.intensity e.blink e.lastword screen.0 screen.1 e.bright e.addressed in
    record {
      x = ap point_x e.whole ∙ k.0;
      y = ap point_y e.whole ∙ k.1;
      intensity = ap point_intensity e.whole ∙ k.2;
      blink = ap point_blink e.whole ∙ k.3;
      word = ap point_word e.whole ∙ k.4;
    }
