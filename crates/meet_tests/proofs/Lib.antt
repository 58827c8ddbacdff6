mod TreeExamples
