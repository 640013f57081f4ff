mod Size
