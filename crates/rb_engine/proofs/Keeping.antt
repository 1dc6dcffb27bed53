-- Proves that the file of a text denotes the text's bundle.
use Rattle.std.proofs.Common.{◌≡◌, ℕ, false, List, [], ◌∷◌, ◌++◌, ap}
use Rattle.std.specs.Option.{unwrap_or}
use Rattle.rb_tree.specs.Resource.{int}
use Rattle.rb_tree.specs.SourceTree.{SourceTree}
use Rattle.rb_format.specs.File.{Denotes, source_tree_of}
use Rattle.rb_packages.specs.Packages.{Files, shelf_of}
use Rattle.rb_packages.specs.Shelf.{Shelf}
use Rattle.rb_engine.specs.Answer.{Start, lookup_from}
use Rattle.rb_engine.specs.Kept.{KeepsTexts, KeepsCommonTexts, KeepsTrees}

source_is : (file : List ℕ) (source : SourceTree) → Denotes file source → source_tree_of file ≡ source
source_is file source h =
    let none : SourceTree = record { tree = int 0; no_fallback = false } in
    ap (λ o. unwrap_or o none) h

kept : (before after : Files) (locale file : List ℕ) (source : SourceTree) → Denotes file source
    → shelf_of (before ++ (locale, file) ∷ after) ≡ shelf_of before ++ (locale, source) ∷ shelf_of after
kept [] after locale file source h = let cons : SourceTree → Shelf = λ s. (locale, s) ∷ shelf_of after in ap cons (source_is file source h)
kept (b ∷ bs) after locale file source h = ap (λ l. (b.0, source_tree_of b.1) ∷ l) (kept bs after locale file source h)

pub keeps_texts : KeepsTexts
keeps_texts start before after locale text name file source good h from path = ap (λ l. lookup_from start l from path) (kept before after locale file source h)

pub keeps_common_texts : KeepsCommonTexts
keeps_common_texts parents own before after locale text name file source good h from path =
    let over : Shelf → Start = λ l. record { icudata = l; parents = parents } in
    ap (λ l. lookup_from (over l) own from path) (kept before after locale file source h)

pub keeps_trees : KeepsTrees
keeps_trees text name file source good h = ap (λ s. s.tree) (source_is file source h)
