-- Written trees as plain values: the form of each node with its span, without how it lies in memory.
use Rattle.std.specs.Prelude.{ℕ, ℤ, Bool, List, Option}
use Rattle.tlsf_syntax.specs.declared.expr.Op.{Op}
use Rattle.tlsf_syntax.specs.declared.expr.Span.{Span}
use Rattle.tlsf_tokens.specs.declared.symbol.Section.{Section}
use Rattle.letters_and_lassos.specs.declared.kinds.Kind.{Kind}

-- a name with its place
pub record Named : Type 0 where
  pub name : List ℕ
  pub span : Span

mutual
  -- a written expression; each constructor is a form of the format
  pub data Tree : Type 0 where
    number : Span → Option ℤ → Tree
    truth : Span → Bool → Tree
    named : Span → List ℕ → Tree
    call : Span → Named → Trees → Tree
    index : Span → Named → Tree → Tree
    size_of : Span → Tree → Tree
    paren : Span → Tree → Tree
    set : Span → Trees → Tree
    steps : Span → Tree → Tree → Tree → Tree
    chain : Span → Tree → Links → Tree
    pair : Span → Op → Tree → Tree → Tree
    prefix : Span → Op → Tree → Tree
    count : Span → Tree → Tree → Tree
    window : Span → Op → Tree → Tree → Tree → Tree
    big : Span → Op → Ranges → Tree → Tree

  pub data Trees : Type 0 where
    no_trees : Trees
    tree : Tree → Trees → Trees

  -- operators of a chain, each with its right operand
  pub data Links : Type 0 where
    no_links : Links
    link : Op → Tree → Links → Links

  -- what a big operator goes over; the truths say which bound is strict
  pub data Ranges : Type 0 where
    no_ranges : Ranges
    members : Named → Tree → Ranges → Ranges
    between : Tree → Bool → Named → Bool → Tree → Ranges → Ranges

abbrev pub tree_span : Tree → Span
tree_span (number s n) = s
tree_span (truth s b) = s
tree_span (named s n) = s
tree_span (call s w ts) = s
tree_span (index s w t) = s
tree_span (size_of s t) = s
tree_span (paren s t) = s
tree_span (set s ts) = s
tree_span (steps s t u v) = s
tree_span (chain s t ls) = s
tree_span (pair s o t u) = s
tree_span (prefix s o t) = s
tree_span (count s t u) = s
tree_span (window s o t u v) = s
tree_span (big s o rs t) = s

pub record Alternative : Type 0 where
  pub guard : Option Tree
  pub value : Tree

pub data Body : Type 0 where
  plain : Tree → Body
  guarded : List Alternative → Body

-- a member of an enumeration, with its values and their spans
pub record Pattern : Type 0 where
  pub bits : List (Option Bool)
  pub span : Span

pub record Member : Type 0 where
  pub word : Named
  pub values : List Pattern

pub data Definition : Type 0 where
  parameter : Named → Tree → Definition
  function : Named → List Named → Body → Definition
  enumeration : Named → List Member → Definition

pub data Shape : Type 0 where
  single : Shape
  bus : Tree → Shape
  typed : Named → Shape

pub record Declaration : Type 0 where
  pub word : Named
  pub shape : Shape

-- the fields of INFO, as they are written
pub data Field : Type 0 where
  title : List ℕ → Field
  description : List ℕ → Field
  semantics : Kind → Bool → Field
  target : Kind → ℕ → Field
  tags : List Named → Field

-- a part of GLOBAL, as it is written
pub data Block : Type 0 where
  parameters : List Definition → Block
  definitions : List Definition → Block

-- a part of MAIN, as it is written
pub data Part : Type 0 where
  inputs : List Declaration → Part
  outputs : List Declaration → Part
  section : Section → List Tree → Part

-- all parts of a text, as they are written
pub record Written : Type 0 where
  pub fields : List Field
  pub blocks : List Block
  pub parts : List Part
