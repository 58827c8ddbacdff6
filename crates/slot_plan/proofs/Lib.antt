mod GatheredParts
mod ShapeExamples
mod SteppedParts
