-- The tree of a text, part by part.
use Rattle.std.proofs.Common.{◌≡◌, List, [], ◌∷◌, ◌++◌, refl, sym, ◌∙◌, ap, append_assoc, map}
use Rattle.std.proofs.lemmas.List.{append-nil, map-append}
use Rattle.tlsf_tokens.specs.declared.symbol.Section.TheVariants.{Initially, Preset, Require, Assert, Assume, Guarantee}
use Rattle.tlsf_syntax.specs.Tree.{Definition, Field, title, description, semantics, target, tags, Block, parameters, definitions, Part, inputs, outputs, section, Written}
use Rattle.tlsf_syntax.specs.Text.{Info, Text, no_sections}
use Rattle.tlsf_reader.specs.Parts.{info_of, definitions_of, text_of}
use Rattle.tlsf_reader.specs.Assembly.{put_field, put_fields, block_definitions, put_part, put_parts}

-- fields

first_field : (f : Field) (fs : List Field) → info_of (f ∷ fs) ≡ put_field f (info_of fs)
first_field (title t) fs = refl
first_field (description t) fs = refl
first_field (semantics k strict) fs = refl
first_field (target k at) fs = refl
first_field (tags ws) fs = refl

pub all_fields : (fs : List Field) → put_fields (info_of []) fs ≡ info_of fs
all_fields [] = refl
all_fields (f ∷ fs) = ap (put_field f) (all_fields fs) ∙ sym (first_field f fs)

pub last_field : {X : Type 0} (view : X → Field) (i : Info) (xs : List X) (x : X) → put_fields i (map view (xs ++ x ∷ [])) ≡ put_fields (put_field (view x) i) (map view xs)
last_field view i [] x = refl
last_field view i (y ∷ xs) x = ap (put_field (view y)) (last_field view i xs x)

-- blocks

pub last_block : (bs : List Block) (b : Block) → definitions_of (bs ++ b ∷ []) ≡ definitions_of bs ++ block_definitions b
last_block [] (parameters ds) = append-nil ds
last_block [] (definitions ds) = append-nil ds
last_block (parameters ds ∷ bs) b = ap (λ x. ds ++ x) (last_block bs b) ∙ sym (append_assoc ds (definitions_of bs) (block_definitions b))
last_block (definitions ds ∷ bs) b = ap (λ x. ds ++ x) (last_block bs b) ∙ sym (append_assoc ds (definitions_of bs) (block_definitions b))

pub more_definitions : {X Y : Type 0} (see : X → Definition) (view : Y → Block) (all xs : List X) (ys : List Y) (y : Y) → map see all ≡ definitions_of (map view ys) → block_definitions (view y) ≡ map see xs
    → map see (all ++ xs) ≡ definitions_of (map view (ys ++ y ∷ []))
more_definitions see view all xs ys y e f =
    map-append see all xs ∙ ap (λ z. z ++ map see xs) e ∙ ap (λ z. definitions_of (map view ys) ++ z) (sym f) ∙ sym (last_block (map view ys) (view y)) ∙ ap definitions_of (sym (map-append view ys (y ∷ [])))

-- parts

first_part : (w : Written) (p : Part) (ps : List Part) → put_part p (text_of (record w { parts = ps })) ≡ text_of (record w { parts = p ∷ ps })
first_part w (inputs ds) ps = refl
first_part w (outputs ds) ps = refl
first_part w (section Initially ts) ps = refl
first_part w (section Preset ts) ps = refl
first_part w (section Require ts) ps = refl
first_part w (section Assert ts) ps = refl
first_part w (section Assume ts) ps = refl
first_part w (section Guarantee ts) ps = refl

all_parts : (w : Written) (ps : List Part) → put_parts (text_of (record w { parts = [] })) ps ≡ text_of (record w { parts = ps })
all_parts w [] = refl
all_parts w (p ∷ ps) = ap (put_part p) (all_parts w ps) ∙ first_part w p ps

pub assembled : (w : Written) (t : Text) → t.info ≡ info_of w.fields → t.definitions ≡ definitions_of w.blocks → t.inputs ≡ [] → t.outputs ≡ [] → t.sections ≡ no_sections → put_parts t w.parts ≡ text_of w
assembled w t i d a b s =
    let start : t ≡ text_of (record w { parts = [] }) = λ k. record { info = i k; definitions = d k; inputs = a k; outputs = b k; sections = s k } in
    ap (λ u. put_parts u w.parts) start ∙ all_parts w w.parts

pub last_part : {X : Type 0} (view : X → Part) (t : Text) (xs : List X) (x : X) → put_parts t (map view (xs ++ x ∷ [])) ≡ put_parts (put_part (view x) t) (map view xs)
last_part view t [] x = refl
last_part view t (y ∷ xs) x = ap (put_part (view y)) (last_part view t xs x)
